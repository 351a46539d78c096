use Rattle.fastlanes_masks.proofs.BitMoves.{holds_rows}
use Rattle.fastlanes_masks.proofs.BitPlaces.{group_bytes-lt}
use Rattle.fastlanes_masks.proofs.bit_transpose.scalar.rows_of_group.Goals as goal

pub gathered-requires : goal.gathered-requires
gathered-requires g c =
    rw (c.lane_of.ensures.value, c.row_of.ensures.value, c.T.ensures, c.T-2.ensures)
    (group_bytes-lt g.E.FastLanes.T g.E.FastLanes.LANES c.args.k g.met.E.FastLanes.layout_law c.requires)

pub returns : goal.returns
returns g c =
    let bytes = rw (c.lane_of.ensures.value, c.row_of.ensures.value, c.T.ensures, c.T-2.ensures) at c.gathered.ensures in
    holds_rows g.E.FastLanes.T g.E.FastLanes.LANES _ _ _ _ g.met.E.FastLanes.layout_law c.requires bytes c.transpose_8x8.ensures
