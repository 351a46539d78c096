use Rattle.std.proofs.Common.{List, map}
use Rattle.fastlanes_base.specs.Digits.{row_digit}
use Rattle.fastlanes.specs.Delta.{row_undelta}
use Rattle.fastlanes.proofs.Deltas.{undeltas_of_digits}
use Rattle.fastlanes.proofs.Framing.{values_of_equal}
use Rattle.fastlanes.proofs.delta.SummingAtWidthRefSlice.at.Goals as goal

pub returns : goal.returns
returns g c =
    let t = g.E.MachineWord.T in
    let number = g.E.MachineWord.number in
    undeltas_of_digits _ _ _ _ _ _ g.met.E.MachineWord.layout_law (values_of_equal _ _
    (λ (p : List g.row.E.Denot). row_undelta t (map number c.args.base.now) (row_digit t g.E.MachineWord.LANES g.N.Width.W (map number p)))
    _ _ _ c.digits_of-values.ensures.words (rw c.W-2.ensures at c.fill_slice_with.ensures))
