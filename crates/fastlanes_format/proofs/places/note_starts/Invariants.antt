use Rattle.std.proofs.Common.{◌≡◌, ℕ, ◌-◌, ◌*◌, ◌<◌, ◌≤◌}
use Rattle.std.specs.Prelude.{slice_index}
use Rattle.fastlanes_format.specs.Format.{page_place}
use Rattle.fastlanes_format.proofs.places.note_starts.Given as goal

-- the places are noted of as many pages as the stride divides so far
abbrev pub invariant-starts : goal.invariant-starts
invariant-starts l = record {
  page : l.page ≡ l.k * l.stride;
  before : l.page ≤ l.last;
  place : l.place ≡ page_place l.bytes l.page;
  noted : (j : ℕ) → j < l.k → slice_index l.starts j ≡ page_place l.bytes (j * l.stride);
}

abbrev pub decreases-starts : goal.decreases-starts
decreases-starts l = l.last - l.page
