use Rattle.std.proofs.Common.{ℕ, List, ◌+◌, ap, ◌∙◌}
use Rattle.fastlanes.specs.Digits.{digits}
use Rattle.fastlanes.specs.Frame.{unframed}
use Rattle.fastlanes_column.proofs.PartWords.{map-part}
use Rattle.fastlanes_column.proofs.column.read_part.Goals as goal

pub returns-clause-block : goal.returns-clause-block
returns-clause-block g c =
    let number = g.E.FastLanes.number in
    c.frame_read.ensures
    ∙ ap (λ (p : List ℕ). unframed g.E.FastLanes.T (number c.args.head.now.reference)
    (digits g.E.FastLanes.T g.E.FastLanes.LANES c.args.head.now.width p))
    (map-part number c.args.input.now c.args.start _ _ (ap (λ (n : ℕ). c.args.start + n) c.packed_len.ensures))
