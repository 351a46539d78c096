use Rattle.std.proofs.Common.{◌≡◌, ℕ, ◌*◌, ◌/◌, ◌%◌, ◌<◌, length}
use Rattle.std.specs.List.{slice_index}
use Rattle.fastlanes_base.specs.Order.{row_at}
use Rattle.fastlanes_packing.proofs.single.row_starts.Given as goal

abbrev pub invariant-loop-k : goal.invariant-loop-k
invariant-loop-k g l = (length l.words ≡ 64) × (length l.shifts ≡ 64)
    × ((k : ℕ) → k < l.k → slice_index l.words k ≡ g.E.MachineWord.LANES * (row_at g.E.MachineWord.LANES (g.E.MachineWord.LANES * k) * l.width / g.E.MachineWord.T))
    × ((k : ℕ) → k < l.k → slice_index l.shifts k ≡ row_at g.E.MachineWord.LANES (g.E.MachineWord.LANES * k) * l.width % g.E.MachineWord.T)
