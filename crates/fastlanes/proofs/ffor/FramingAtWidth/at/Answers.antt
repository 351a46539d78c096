use Rattle.std.proofs.Common.{◌≡◌, length, lit<, map}
use Rattle.std.proofs.lemmas.List.{length-map}
use Rattle.fastlanes.proofs.Framing.{framed_digit, framed_digits, framed_packs, near_block, near_ones}
use Rattle.fastlanes.proofs.ffor.FramingAtWidth.at.Goals as goal

pub returns : goal.returns
returns g c =
    let layout = g.met.E.MachineWord.layout_law in
    let long : length (map g.E.MachineWord.number c.args.input.now) ≡ 1024 = rw length-map c.requires.2 in
    let made = rw c.W.ensures at c.pack_all_of.ensures in
    let packed = framed_packs _ _ _ _ _ _ layout long (record { long = made.long; each = made.each }) in
    let near = near_ones _ _ _ _ _ _ layout c.requires.0 long c.know_range.ensures (c.know_range-2.ensures 0 0 (lit< tt)) packed in
    record {
      packed = packed;
      digits = framed_digits _ _ _ _ _ _ layout long packed;
      places = λ i in_block. framed_digit _ _ _ _ _ _ i layout long in_block packed;
      comes_back = near;
      block_comes_back = near_block _ _ _ _ _ _ long near;
    }
