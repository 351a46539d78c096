use Rattle.std.proofs.Common.{◌≡◌, refl, sym, ◌∙◌, arith}
use Rattle.fastlanes_masks.specs.declared.lanes.byte_tables.TheConstants.{GATHER_8_HIGH, GATHER_8_LOW, GATHER_16_HIGH, GATHER_16_LOW, GATHER_32_HIGH, GATHER_32_LOW, GATHER_64_HIGH, GATHER_64_LOW, SCATTER_8_HIGH, SCATTER_8_LOW, SCATTER_16_HIGH, SCATTER_16_LOW, SCATTER_32_HIGH, SCATTER_32_LOW, SCATTER_64_HIGH, SCATTER_64_LOW}
use Rattle.fastlanes_masks.specs.Bytes.{gather_place, scatter_place}
use Rattle.fastlanes_masks.proofs.ByteTables.{groups_by_tables, tables_permute}
use Rattle.fastlanes_masks.proofs.lanes.to_places.Goals as goal

pub returns-in-8 : goal.returns-in-8
returns-in-8 g c =
    let tables = tables_permute g.E.MachineWord.T g.met.E.MachineWord.layout_law.size in
    groups_by_tables gather_place scatter_place g.E.MachineWord.T 8 _ _ GATHER_8_LOW GATHER_8_HIGH SCATTER_8_LOW SCATTER_8_HIGH (sym c.T.ensures ∙ c.in-8.is)
    tables.0.0 tables.1.0 refl refl refl refl c.transpose_groups.ensures

pub returns-in-16 : goal.returns-in-16
returns-in-16 g c =
    let tables = tables_permute g.E.MachineWord.T g.met.E.MachineWord.layout_law.size in
    groups_by_tables gather_place scatter_place g.E.MachineWord.T 16 _ _ GATHER_16_LOW GATHER_16_HIGH SCATTER_16_LOW SCATTER_16_HIGH (sym c.T.ensures ∙ c.in-16.is)
    tables.0.0 tables.1.0 refl refl refl refl c.transpose_groups-in-16.ensures

pub returns-in-32 : goal.returns-in-32
returns-in-32 g c =
    let tables = tables_permute g.E.MachineWord.T g.met.E.MachineWord.layout_law.size in
    groups_by_tables gather_place scatter_place g.E.MachineWord.T 32 _ _ GATHER_32_LOW GATHER_32_HIGH SCATTER_32_LOW SCATTER_32_HIGH (sym c.T.ensures ∙ c.in-32.is)
    tables.0.0 tables.1.0 refl refl refl refl c.transpose_groups-in-32.ensures

pub returns-in_default : goal.returns-in_default
returns-in_default g c =
    let tables = tables_permute g.E.MachineWord.T g.met.E.MachineWord.layout_law.size in
    let is_64 : g.E.MachineWord.T ≡ 64 = omega (arith, c.T.ensures, c.in_default, g.met.E.MachineWord.layout_law.size) in
    groups_by_tables gather_place scatter_place g.E.MachineWord.T 64 _ _ GATHER_64_LOW GATHER_64_HIGH SCATTER_64_LOW SCATTER_64_HIGH is_64
    tables.0.0 tables.1.0 refl refl refl refl c.transpose_groups-in_default.ensures
