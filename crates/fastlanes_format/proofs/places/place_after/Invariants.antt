use Rattle.std.proofs.Common.{◌≡◌, ◌+◌}
use Rattle.fastlanes_format.specs.Format.{page_place}
use Rattle.fastlanes_format.proofs.places.place_after.Given as goal

-- the pages that were passed are behind
abbrev pub invariant-loop-done : goal.invariant-loop-done
invariant-loop-done l = record { place : l.at ≡ page_place l.bytes (l.page + l._done) }
