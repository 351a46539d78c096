use Rattle.std.proofs.Common.{ℕ, List, ◌+◌, ap, ◌∙◌}
use Rattle.std.specs.List.{slice_index}
use Rattle.fastlanes.specs.Digits.{digits}
use Rattle.fastlanes.specs.Frame.{unframed}
use Rattle.fastlanes_column.proofs.PartWords.{map-part}
use Rattle.fastlanes_column.proofs.column.value_at.Goals as goal

pub returns : goal.returns
returns g c =
    let number = g.E.FastLanes.number in
    c.frame_get.ensures
    ∙ ap (λ (p : List ℕ). slice_index (unframed g.E.FastLanes.T (number c.args.head.now.reference)
    (digits g.E.FastLanes.T g.E.FastLanes.LANES c.args.head.now.width p)) c.args.index)
    (map-part number c.args.input.now c.args.start _ _ (ap (λ (n : ℕ). c.args.start + n) c.packed_len.ensures))
