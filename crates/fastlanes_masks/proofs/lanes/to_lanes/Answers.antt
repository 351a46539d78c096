use Rattle.std.proofs.Common.{◌≡◌, refl, sym, ◌∙◌, arith}
use Rattle.fastlanes_masks.specs.declared.lanes.byte_tables.TheConstants.{UNGATHER_8_HIGH, UNGATHER_8_LOW, UNGATHER_16_HIGH, UNGATHER_16_LOW, UNGATHER_32_HIGH, UNGATHER_32_LOW, UNGATHER_64_HIGH, UNGATHER_64_LOW, UNSCATTER_8_HIGH, UNSCATTER_8_LOW, UNSCATTER_16_HIGH, UNSCATTER_16_LOW, UNSCATTER_32_HIGH, UNSCATTER_32_LOW, UNSCATTER_64_HIGH, UNSCATTER_64_LOW}
use Rattle.fastlanes_masks.specs.Bytes.{ungather_place, unscatter_place}
use Rattle.fastlanes_masks.proofs.ByteTables.{groups_by_tables, tables_permute}
use Rattle.fastlanes_masks.proofs.lanes.to_lanes.Goals as goal

pub returns-in-8 : goal.returns-in-8
returns-in-8 g c =
    let tables = tables_permute g.E.MachineWord.T g.met.E.MachineWord.layout_law.size in
    groups_by_tables unscatter_place ungather_place g.E.MachineWord.T 8 _ _ UNSCATTER_8_LOW UNSCATTER_8_HIGH UNGATHER_8_LOW UNGATHER_8_HIGH (sym c.T.ensures ∙ c.in-8.is)
    tables.1.1 tables.0.1 refl refl refl refl c.transpose_groups.ensures

pub returns-in-16 : goal.returns-in-16
returns-in-16 g c =
    let tables = tables_permute g.E.MachineWord.T g.met.E.MachineWord.layout_law.size in
    groups_by_tables unscatter_place ungather_place g.E.MachineWord.T 16 _ _ UNSCATTER_16_LOW UNSCATTER_16_HIGH UNGATHER_16_LOW UNGATHER_16_HIGH (sym c.T.ensures ∙ c.in-16.is)
    tables.1.1 tables.0.1 refl refl refl refl c.transpose_groups-in-16.ensures

pub returns-in-32 : goal.returns-in-32
returns-in-32 g c =
    let tables = tables_permute g.E.MachineWord.T g.met.E.MachineWord.layout_law.size in
    groups_by_tables unscatter_place ungather_place g.E.MachineWord.T 32 _ _ UNSCATTER_32_LOW UNSCATTER_32_HIGH UNGATHER_32_LOW UNGATHER_32_HIGH (sym c.T.ensures ∙ c.in-32.is)
    tables.1.1 tables.0.1 refl refl refl refl c.transpose_groups-in-32.ensures

pub returns-in_default : goal.returns-in_default
returns-in_default g c =
    let tables = tables_permute g.E.MachineWord.T g.met.E.MachineWord.layout_law.size in
    let is_64 : g.E.MachineWord.T ≡ 64 = omega (arith, c.T.ensures, c.in_default, g.met.E.MachineWord.layout_law.size) in
    groups_by_tables unscatter_place ungather_place g.E.MachineWord.T 64 _ _ UNSCATTER_64_LOW UNSCATTER_64_HIGH UNGATHER_64_LOW UNGATHER_64_HIGH is_64
    tables.1.1 tables.0.1 refl refl refl refl c.transpose_groups-in_default.ensures
