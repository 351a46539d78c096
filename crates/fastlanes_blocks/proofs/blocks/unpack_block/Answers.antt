use Rattle.std.proofs.Common.{◌≡◌, ℕ, ◌+◌, ◌*◌, ap, refl, rules}
use Rattle.fastlanes_packing.specs.Packing.{UnpacksBlock}
use Rattle.fastlanes_blocks.proofs.Places.{of_blocks}
use Rattle.fastlanes_blocks.proofs.blocks.unpack_block.Goals as goal

pub returns-clause-unpacks : goal.returns-clause-unpacks
returns-clause-unpacks g c =
    let lanes = g.E.MachineWord.LANES in
    let w = g.N.Width.W in
    let words = c.LANES.result * c.W.result in
    let same : words ≡ lanes * w = rw (c.LANES.ensures, c.W.ensures) refl in
    let from = 1024 * c.args.block in
    let start = words * c.args.block in
    of_blocks g.E.MachineWord.number (UnpacksBlock g.E.MachineWord.T lanes w) c.args.input.now c.args.output.now c.at.new.output c.args.block
    (lanes * w) start (start + words) 1024 from (from + 1024)
    (ap (λ (n : ℕ). n * c.args.block) same) (ap (λ (n : ℕ). start + n) same) refl refl (search rules) (search rules) c.at.ensures
