use Rattle.std.proofs.Common.{List, map, subst}
use Rattle.std.proofs.lemmas.List.{length-map}
use Rattle.fastlanes_base.specs.Digits.{row_digit}
use Rattle.fastlanes_rows.specs.Block.{HasValues}
use Rattle.fastlanes_packing.proofs.Unpacking.{unpacks_block}
use Rattle.fastlanes_packing.proofs.bitpacking.unpack_by.Goals as goal

pub returns : goal.returns
returns g c =
    let t = g.E.MachineWord.T in
    let lanes = g.E.MachineWord.LANES in
    let number = g.E.MachineWord.number in
    let filled = rw c.W-2.ensures at c.fill_slice_with.ensures in
    unpacks_block _ _ _ _ _ g.met.E.MachineWord.layout_law (rw length-map c.requires.words)
    (subst (λ (p : List g.row.E.Denot). HasValues t lanes (row_digit t lanes g.N.Width.W (map number p)) (map number c.fill_slice_with.new.output))
    c.digits_of-digits.ensures.words (record { long = filled.long; each = filled.each }))
