use Rattle.std.proofs.Common.{List, map}
use Rattle.fastlanes_base.specs.Digits.{row_digit}
use Rattle.fastlanes.specs.Frame.{unframed_row}
use Rattle.fastlanes.proofs.Framing.{unframed_digits, values_of_equal}
use Rattle.fastlanes.proofs.ffor.UnframingAtWidth.at.Goals as goal

pub returns : goal.returns
returns g c =
    let t = g.E.MachineWord.T in
    let number = g.E.MachineWord.number in
    unframed_digits _ _ _ _ _ _ g.met.E.MachineWord.layout_law (values_of_equal _ _
    (λ (p : List g.row.E.Denot). unframed_row t (number c.args.reference) (row_digit t g.E.MachineWord.LANES g.N.Width.W (map number p)))
    _ _ _ c.digits_of-values.ensures.words (rw c.W-2.ensures at c.fill_slice_with.ensures))
