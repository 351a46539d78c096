use Rattle.std.proofs.Common.{◌≡◌, ◌*◌, arith}
use Rattle.fastlanes_masks.proofs.Answering.{answers_of_bytes, lanes_from_first, mask_of_lanes}
use Rattle.fastlanes_masks.proofs.bitpacking_cmp.compare_by_lanes.Goals as goal

pub returns : goal.returns
returns g c =
    let layout = g.met.E.MachineWord.layout_law in
    let lanes = g.E.MachineWord.LANES in
    let area : lanes * g.E.MachineWord.T ≡ 8 * 128 = omega (arith, layout.area) in
    mask_of_lanes _ lanes _ _ _ _ layout
    (answers_of_bytes _ lanes 128 _ _ _ _ _ layout.size area c.bytes_of_lanes.ensures c.put_bytes.ensures.bytes (lanes_from_first _ _ lanes _ _ _ c.requires.words c.compare_lanes.ensures))
