use Rattle.std.proofs.Common.{◌≡◌, ◌-◌, ◌^◌, max, min}
use Rattle.std.specs.Prelude.{fold}
use Rattle.fastlanes_pages.specs.ColumnValues.{words_in}
use Rattle.fastlanes_pages.proofs.bounds.bounds_of_bases.Given as goal

-- the minimum and the maximum of the bases so far
abbrev pub invariant-loop-lane : goal.invariant-loop-lane
invariant-loop-lane g l = record {
  least : g.E.FastLanes.number l.bounds.0 ≡ fold min (2 ^ g.E.FastLanes.T - 1) (words_in g.E.FastLanes.T l.lane l.before);
  greatest : g.E.FastLanes.number l.bounds.1 ≡ fold max 0 (words_in g.E.FastLanes.T l.lane l.before);
}
