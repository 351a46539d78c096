use Rattle.std.proofs.Common.{ℕ, ◌^◌, ◌<◌, map, take}
use Rattle.std.specs.List.{slice_index}
use Rattle.fastlanes.specs.Frame.{framed}
use Rattle.fastlanes_column.specs.LeastWidth.{IsAsWide}
use Rattle.fastlanes_column.proofs.Distances.{low_distances}
use Rattle.fastlanes_column.proofs.WidthBounds.{IsGreatestSoFar, IsLeastSoFar}
use Rattle.fastlanes_column.proofs.minimum.distances_from.Given as goal

abbrev pub invariant-loop-word : goal.invariant-loop-word
invariant-loop-word g l =
    let number = g.E.FastLanes.number in record {
      joined : IsAsWide l.joined (framed 64 l.base (map number (take l.word-index l.words)));
      least : IsLeastSoFar 32 l.word-index l.least (low_distances l.base (map number l.words));
      greatest : IsGreatestSoFar l.word-index l.greatest (low_distances l.base (map number l.words));
      below : (k : ℕ) → k < l.word-index → slice_index (map number l.words) k < 2 ^ 64;
    }
