-- The parts of a column's values that its blocks have.
use Rattle.std.proofs.Common.{◌≡◌, ℕ, ◌+◌, ◌-◌, ◌*◌, ◌/◌, ◌%◌, ◌<◌, ◌≤◌, ◌∙◌, ◌++◌, All, Bool, List, [], true, false, ap, arith, drop, get_or, inl, inr, length, map, min, subst, suc, sym, take}
use Rattle.std.proofs.Math.Seq.{take-add}
use Rattle.std.proofs.lemmas.Bool.{cases_lt}
use Rattle.std.proofs.lemmas.List.{append-nil, drop-drop, drop-map, drop-take, drop_all, ext_get_or, get_or-drop, get_or-take, length-drop, length-map, length-take, map-append, take-map, take-take, take_all}
use Rattle.std.proofs.lemmas.List.Elements.{All-append}
use Rattle.std.proofs.lemmas.Slice.{take-put_mid}
use Rattle.std.proofs.lemmas.List.FromFn.{get_or-map-range_with_len, length-map-range_with_len}
use Rattle.std.specs.Prelude.{◌==◌}
use Rattle.fastlanes.specs.Digits.{digits}
use Rattle.fastlanes.specs.Delta.{undeltas}
use Rattle.fastlanes.specs.Transposition.{original_index, untransposed}
use Rattle.fastlanes_format.proofs.PagePlaces.{page_at}
use Rattle.fastlanes_format.specs.Format.{AreColumn, block_bytes, blocks_of, count_of, form_of, page_bytes, reference_of, width_of}
use Rattle.fastlanes_pages.proofs.FrameWords.{count_values}
use Rattle.fastlanes_pages.specs.ColumnValues.{block_values, column_value, column_values, form_values, sums_values, words_in}
use Rattle.fastlanes_pages.specs.Heads.{BlockHead, ColumnBlock, column_block, column_head, page_block}
use borrow.Rule.Slice.PartMut.{put_mid}

abbrev block_with : BlockHead → List ℕ → ColumnBlock
block_with head values = record { head = head; values = values }

module _ (t lanes : ℕ) where
  sums_long : (width : ℕ) (bytes : List ℕ) → length (sums_values t lanes width bytes) ≡ 1024
  unfolding sums_values untransposed
  sums_long width bytes =
      let sums = undeltas t lanes (words_in t lanes (take 128 bytes)) (digits t lanes width (words_in t (lanes * width) (drop 128 bytes))) in
      length-map-range_with_len (λ j. get_or sums (original_index j) 0) 0 1024

  -- a block has 1024 values
  pub form_long : (differences : Bool) (width reference : ℕ) (bytes : List ℕ) → length (form_values t lanes differences width reference bytes) ≡ 1024
  form_long true width reference bytes = sums_long width bytes
  form_long false width reference bytes = count_values t lanes width reference bytes

  module _ (bytes : List ℕ) where
    -- a column has as many values as its last bytes say
    pub values_count : length (column_values t lanes bytes) ≡ count_of bytes
    unfolding column_values
    values_count = length-map-range_with_len (column_value t lanes bytes) 0 (count_of bytes)

    value_at : (i : ℕ) → i < count_of bytes → get_or (column_values t lanes bytes) i 0 ≡ column_value t lanes bytes i
    unfolding column_values
    value_at i below = get_or-map-range_with_len (column_value t lanes bytes) 0 (count_of bytes) i i 0 below (omega arith)

    value_of_block : (n i : ℕ) → i < 1024
        → column_value t lanes bytes (1024 * n + i) ≡ get_or (block_values t lanes (page_bytes bytes (n / 64)) (n % 64)) i 0
    value_of_block n i below =
        let page : (1024 * n + i) / 65536 ≡ n / 64 = omega arith in
        let block : (1024 * n + i) % 65536 / 1024 ≡ n % 64 = omega arith in
        let at : (1024 * n + i) % 1024 ≡ i = omega arith in
        ap (λ p. get_or (block_values t lanes (page_bytes bytes p) ((1024 * n + i) % 65536 / 1024)) ((1024 * n + i) % 1024) 0) page
        ∙ ap (λ b. get_or (block_values t lanes (page_bytes bytes (n / 64)) b) ((1024 * n + i) % 1024) 0) block
        ∙ ap (λ a. get_or (block_values t lanes (page_bytes bytes (n / 64)) (n % 64)) a 0) at

    -- the values of a block of a column
    block_part_is : (n len : ℕ) → 1024 * n < count_of bytes → len ≡ min 1024 (count_of bytes - 1024 * n)
        → take len (block_values t lanes (page_bytes bytes (n / 64)) (n % 64)) ≡ take 1024 (drop (1024 * n) (column_values t lanes bytes))
    block_part_is n len below most =
        let page = page_bytes bytes (n / 64) in
        let block = block_values t lanes page (n % 64) in
        let long : length block ≡ 1024 = form_long (form_of page (n % 64) == 1) (width_of page (n % 64)) (reference_of page (n % 64)) (block_bytes page (n % 64)) in
        let values = column_values t lanes bytes in
        let here = length-take len block in
        let there = length-take 1024 (drop (1024 * n) values) in
        let behind = length-drop (1024 * n) values in
        ext_get_or 0 (take len block) (take 1024 (drop (1024 * n) values)) (omega (arith, here, there, behind, values_count, long))
        (λ i inside.
        let in_len : i < len = omega (arith, here, inside) in
        get_or-take len block i 0 in_len
        ∙ sym (value_of_block n i (omega (arith, in_len))) ∙ sym (value_at (1024 * n + i) (omega (arith, in_len)))
        ∙ sym (get_or-drop (1024 * n) values i 0) ∙ sym (get_or-take 1024 (drop (1024 * n) values) i 0 (omega (arith, in_len))))

    -- and the block
    pub block_same : (page : List ℕ) (n len : ℕ) → page ≡ page_bytes bytes (n / 64) → 1024 * n < length (column_values t lanes bytes)
        → len ≡ min 1024 (count_of bytes - 1024 * n) → page_block t lanes page (n % 64) len ≡ column_block t lanes bytes n
    block_same page n len is_page below most =
        ap (λ p. page_block t lanes p (n % 64) len) is_page
        ∙ ap (block_with (column_head t bytes n)) (block_part_is n len (omega (arith, values_count, below)) most)

-- a value stands in the block of its number
pub in_its_block : (values : List ℕ) (i : ℕ) → get_or (take 1024 (drop (1024 * (i / 1024)) values)) (i % 1024) 0 ≡ get_or values i 0
in_its_block values i =
    let at : 1024 * (i / 1024) + i % 1024 ≡ i = omega arith in
    get_or-take 1024 (drop (1024 * (i / 1024)) values) (i % 1024) 0 (omega arith) ∙ get_or-drop (1024 * (i / 1024)) values (i % 1024) 0
    ∙ ap (λ k. get_or values k 0) at

-- which has it
pub block_reaches : (values : List ℕ) (i : ℕ) → i < length values → i % 1024 < length (take 1024 (drop (1024 * (i / 1024)) values))
block_reaches values i below =
    omega (arith, length-take 1024 (drop (1024 * (i / 1024)) values), length-drop (1024 * (i / 1024)) values)

-- a view of a block has so many values
pub view_long : (t lanes : ℕ) (differences : Bool) (width reference : ℕ) (bytes : List ℕ) (len : ℕ) (values : List ℕ) → len ≤ 1024
    → take len (form_values t lanes differences width reference bytes) ≡ values → len ≡ length values
view_long t lanes differences width reference bytes len values most is =
    let block = form_values t lanes differences width reference bytes in
    omega (arith, ap length is, length-take len block, form_long t lanes differences width reference bytes)

-- what was copied from a block that was read are its values from one on
pub part_read : {X : Type 0} (number : X → ℕ) (block copied : List X) (from n : ℕ) (values : List ℕ) → take (length values) (map number block) ≡ values
    → copied ≡ take n (drop from block) → from + n ≤ length values → map number copied ≡ take n (drop from values)
part_read number block copied from n values is same within =
    let all = map number block in
    ap (map number) same ∙ sym (take-map number n (drop from block)) ∙ ap (take n) (sym (drop-map number from block))
    ∙ sym (drop-take from n all) ∙ ap (drop from) (sym (take-take (from + n) (length values) all within)) ∙ drop-take from n (take (length values) all)
    ∙ ap (λ v. take n (drop from v)) is

-- and so are values that were read one by one
pub each_read : {X : Type 0} (number : X → ℕ) (output : List X) (values : List ℕ) (from n : ℕ) → length output ≡ n → from + n ≤ length values
    → ((k : ℕ) → k < n → get_or (map number output) k 0 ≡ get_or values (from + k) 0) → map number output ≡ take n (drop from values)
each_read number output values from n long within each =
    ext_get_or 0 (map number output) (take n (drop from values))
    (omega (arith, length-map output number, length-take n (drop from values), length-drop from values, long))
    (λ k inside.
    let below : k < n = omega (arith, inside, length-map output number, long) in
    each k below ∙ sym (get_or-drop from values k 0) ∙ sym (get_or-take n (drop from values) k 0 below))

-- a whole block is all its values
pub whole_read : {X : Type 0} (number : X → ℕ) (block output : List X) (from : ℕ) (values : List ℕ) → take (length values) (map number block) ≡ values
    → length block ≡ 1024 → length output ≡ 1024 → from + length output ≤ length values → length values ≤ 1024
    → map number (block ++ drop 1024 output) ≡ take (length output) (drop from values)
whole_read number block output from values is long room within most =
    let none : drop 1024 output ≡ [] = drop_all 1024 output (omega (arith, room)) in
    let first : from ≡ 0 = omega arith in
    let all : length values ≡ 1024 = omega arith in
    ap (λ rest. map number (block ++ rest)) none ∙ ap (map number) (append-nil block)
    ∙ sym (take_all (length values) (map number block) (omega (arith, length-map block number, long, all))) ∙ is
    ∙ sym (take_all (length output) values (omega (arith, all, room))) ∙ ap (λ n. take (length output) (drop n values)) (sym first)

-- a piece of a block is one of all values
pub block_piece : (values : List ℕ) (place k : ℕ) → place % 1024 + k ≤ 1024
    → take k (drop (place % 1024) (take 1024 (drop (1024 * (place / 1024)) values))) ≡ take k (drop place values)
block_piece values place k within =
    let block = drop (1024 * (place / 1024)) values in
    let at : place % 1024 + 1024 * (place / 1024) ≡ place = omega arith in
    let other : 1024 * (place / 1024) + place % 1024 ≡ place = omega arith in
    sym (drop-take (place % 1024) k (take 1024 block)) ∙ ap (drop (place % 1024)) (take-take (place % 1024 + k) 1024 block within)
    ∙ drop-take (place % 1024) k block ∙ ap (take k) (drop-drop (place % 1024) (1024 * (place / 1024)) values ∙ ap (λ n. drop n values) other)

-- with the next values, those so far are read
pub read_more : {X : Type 0} (number : X → ℕ) (xs ys : List X) (values : List ℕ) (from done end : ℕ) → done ≤ end → done ≤ length xs → length ys ≡ end - done
    → map number (take done xs) ≡ take done (drop from values) → map number ys ≡ take (end - done) (drop (from + done) values)
    → map number (take end (put_mid done (end - done) xs ys)) ≡ take end (drop from values)
read_more number xs ys values from done end before within count so_far next =
    let both : done + (end - done) ≡ end = omega arith in
    ap (map number) (take-put_mid done (end - done) xs ys end (omega (arith, count)) within) ∙ map-append number (take done xs) ys
    ∙ ap (λ v. v ++ map number ys) so_far ∙ ap (λ v. take done (drop from values) ++ v) next
    ∙ ap (λ v. take done (drop from values) ++ take (end - done) v) (sym (drop-drop done from values))
    ∙ sym (take-add done (end - done) (drop from values)) ∙ ap (λ n. take n (drop from values)) both

-- a block of a column is one of its page
pub block_there : (t : ℕ) (bytes : List ℕ) (column : AreColumn t bytes) (n : ℕ) → 1024 * n < count_of bytes → n % 64 < blocks_of (page_bytes bytes (n / 64))
block_there t bytes column n below =
    let here = page_at t bytes column (n / 64) (omega (arith, below)) in
    elim (cases_lt (count_of bytes) (65536 * suc (n / 64))) [
      | inl less ↦ omega (arith, here.last (omega (arith, less)), below)
      | inr more ↦ omega (arith, here.full (omega (arith, more)), below)
    ]

-- what holds of the values so far and of those of the next block
pub all_more : (P : ℕ → Type 0) (values : List ℕ) (n : ℕ) → All P (take (1024 * n) values) → All P (take 1024 (drop (1024 * n) values))
    → All P (take (1024 * (n + 1)) values)
all_more P values n before here =
    let next : 1024 * (n + 1) ≡ 1024 * n + 1024 = omega arith in
    subst (All P) (sym (ap (λ m. take m values) next ∙ take-add (1024 * n) 1024 values))
    (All-append P (take (1024 * n) values) (take 1024 (drop (1024 * n) values)) before here)
