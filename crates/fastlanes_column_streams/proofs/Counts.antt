-- How many bytes and values a source gave.
use Rattle.std.proofs.Common.{◌≡◌, ℕ, ◌+◌, ◌-◌, ◌*◌, ◌%◌, ◌^◌, ◌∙◌, List, ap, arith, length, min, sym}
use Rattle.std.proofs.Math.Nat.{add-mul, add-mul-mod_self_right, mul_assoc, mul_comm}
use Rattle.fastlanes_column_streams.specs.Refusals.{StopsEncoding, StopsPage}
use Rattle.fastlanes_column_streams.specs.declared.error.StreamError.{StreamError}
use Rattle.fastlanes_column_streams.specs.declared.error.StreamError.TheVariants.{ReadFailed, Refused, ShortValue, TooMany, WriteFailed}

module _ (size : ℕ) where
  -- the bytes of one more full page
  pub one_page_more : (page : ℕ) → (page + 1) * (65536 * size) ≡ page * (65536 * size) + 65536 * size
  one_page_more page = let sum = add-mul page 1 (65536 * size) in omega (arith, sum)

  values_of_pages : (page : ℕ) → 65536 * page * size ≡ page * (65536 * size)
  values_of_pages page = ap (λ (n : ℕ). n * size) (mul_comm 65536 page) ∙ mul_assoc page 65536 size

  -- the bytes of full pages and of the last one
  pub values_of_all : (page count : ℕ) → (65536 * page + count) * size ≡ page * (65536 * size) + count * size
  values_of_all page count = add-mul (65536 * page) count size ∙ ap (λ (n : ℕ). n + count * size) (values_of_pages page)

  min_of_sum : (a x most : ℕ) → min (min a most + x) most ≡ min (a + x) most
  min_of_sum a x most = omega arith

  -- where the next full page begins
  pub place_more : (page place next : ℕ) → next ≡ min (place + 65536 * size) (2 ^ 64 - 1) → place ≡ min (page * (65536 * size)) (2 ^ 64 - 1)
      → next ≡ min ((page + 1) * (65536 * size)) (2 ^ 64 - 1)
  place_more page place next sum at =
      sum ∙ ap (λ (n : ℕ). min (n + 65536 * size) (2 ^ 64 - 1)) at ∙ min_of_sum (page * (65536 * size)) (65536 * size) (2 ^ 64 - 1)
      ∙ ap (λ (n : ℕ). min n (2 ^ 64 - 1)) (sym (one_page_more page))

  -- why the next page is not written is why the column is not
  pub stops_all : (page place : ℕ) (first left : List ℕ) (e : StreamError) → length first ≡ page * (65536 * size) + length left
      → place ≡ min (page * (65536 * size)) (2 ^ 64 - 1) → StopsPage size place left e → StopsEncoding size first e
  stops_all page place first left (ShortValue count) given at stops =
      let before = page * (65536 * size) in
      let same : length first % size ≡ length left % size =
      ap (λ (n : ℕ). n % size) (given ∙ omega arith ∙ ap (λ (n : ℕ). length left + n) (sym (mul_assoc page 65536 size))) ∙ add-mul-mod_self_right (length left) (page * 65536) size in (
        λ whole. stops.0 (sym same ∙ whole),
        stops.1 ∙ ap (λ (n : ℕ). min (n + length left) (2 ^ 64 - 1)) at ∙ min_of_sum before (length left) (2 ^ 64 - 1) ∙ ap (λ (n : ℕ). min n (2 ^ 64 - 1)) (sym given),
      )
  stops_all page place first left TooMany given at stops = absurd stops
  stops_all page place first left (Refused error) given at stops = absurd stops
  stops_all page place first left ReadFailed given at stops = tt
  stops_all page place first left WriteFailed given at stops = tt
