use Rattle.std.proofs.lemmas.List.{length-map}
use Rattle.fastlanes_packing.proofs.Unpacking.{packs_block}
use Rattle.fastlanes_packing.proofs.bitpacking.pack_by.Goals as goal

pub returns : goal.returns
returns g c = packs_block _ _ _ _ _ g.met.E.MachineWord.layout_law (rw length-map c.requires.input) (rw c.W.ensures at c.pack_all_of.ensures)
