use Rattle.std.proofs.Common.{◌≡◌, ◌-◌, ◌<◌, map}
use Rattle.std.specs.List.{slice_index}
use Rattle.fastlanes.specs.Rows.{CarriesWords, IsRowOfWords, words_begun}
use Rattle.callers.proofs.lane_rows.last_words.Given as goal

abbrev pub invariant-loop-row : goal.invariant-loop-row
invariant-loop-row g l =
    (l.words ≡ record { words = l.packed; width = l.width; lane = 0; count = words_begun g.E.FastLanes.T l.width l.row })
    × CarriesWords 16 g.E.FastLanes.T g.E.FastLanes.LANES l.width 0 l.row (map g.E.FastLanes.number l.packed) (slice_index (map g.E.FastLanes.number l.carry))
    × (0 < words_begun g.E.FastLanes.T l.width l.row → IsRowOfWords 16 g.E.FastLanes.LANES 0 (words_begun g.E.FastLanes.T l.width l.row - 1) (map g.E.FastLanes.number l.packed) (slice_index (map g.E.FastLanes.number l.carry)))
