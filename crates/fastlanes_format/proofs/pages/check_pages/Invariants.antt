use Rattle.std.proofs.Common.{◌≡◌, ℕ, ◌+◌, ◌-◌, ◌*◌, ◌≤◌, List, drop, length}
use Rattle.std.specs.Prelude.{sum_by}
use Rattle.fastlanes_format.specs.Format.{ArePages, BeginWithPages, values_of}
use Rattle.fastlanes_format.proofs.pages.check_pages.Given as goal

-- whatever pages come now are the rest of those that all bytes are, and the other way round; and those that were passed
abbrev pub invariant-pages : goal.invariant-pages
invariant-pages l = record {
  place : l.place ≤ length l.bytes;
  count : l.values ≤ 65536 * l.place;
  are : (pages : List (List ℕ)) → ArePages l.bits l.checked l.values pages (drop l.place l.bytes)
      → (all : List (List ℕ)) × ArePages l.bits l.checked 0 all l.bytes × (l.values + sum_by values_of pages ≡ sum_by values_of all);
  others : (all : List (List ℕ)) → ArePages l.bits l.checked 0 all l.bytes
      → (pages : List (List ℕ)) × ArePages l.bits l.checked l.values pages (drop l.place l.bytes);
  passed : (pages : List (List ℕ)) × BeginWithPages l.bits l.checked 0 pages l.bytes (drop l.place l.bytes)
      × (l.values ≡ sum_by values_of pages) × (l.place ≡ sum_by length pages);
}

abbrev pub decreases-pages : goal.decreases-pages
decreases-pages l = length l.bytes - l.place
