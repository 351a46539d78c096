use Rattle.std.proofs.Common.{◌≡◌, ℕ, ◌<◌, [], length, map}
use Rattle.std.specs.List.{slice_index, slice_index_or}
use Rattle.callers.specs.Streams.{AreDigits, StandsBefore}
use Rattle.callers.proofs.streamed.unpack_streamed.Given as goal

abbrev pub invariant-loop-row : goal.invariant-loop-row
invariant-loop-row g l =
    let number = g.E.FastLanes.number in
    let t = g.E.FastLanes.T in
    let words = g.S.WordSource.words l.fn.source in
    let asked = g.S.WordSource.asked l.source in
    (g.S.WordSource.words l.source ≡ words)
    × StandsBefore t l.width l.row asked words (slice_index (map number l.last))
    × (length l.output ≡ t)
    × ((k : ℕ) → k < l.row → AreDigits t l.width words k (slice_index_or (map (map number) l.output) k []))
