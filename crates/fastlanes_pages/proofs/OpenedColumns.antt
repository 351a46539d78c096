-- The bytes that were looked at are a column, of as many values as its last bytes say.
use Rattle.std.proofs.Common.{◌≡◌, ℕ, ◌∙◌, Bool, List, drop, sum_by, sym, take}
use Rattle.fastlanes_format.specs.Format.{AreColumn, ArePages, IsColumnHead, count_of, values_of}
use Rattle.fastlanes_format.proofs.PagePlaces.{column_count}

module _ (t : ℕ) (checked : Bool) (bytes : List ℕ) (head : IsColumnHead t checked (take 8 bytes)) (len : ℕ)
    (pages : (pages : List (List ℕ)) × ArePages t checked 0 pages (drop 8 bytes) × (len ≡ sum_by values_of pages)) where
  abbrev pub are_column : AreColumn t bytes
  are_column = record { checked = checked; pages = pages.0; is = record { head = head; behind = pages.1 } }

  pub same_count : len ≡ count_of bytes
  same_count = pages.2 ∙ sym (column_count t bytes are_column)
