-- A digit of a lane lies in one word or in two.
use Rattle.std.proofs.Common.{◌≡◌, ℕ, ◌+◌, ◌-◌, ◌*◌, ◌/◌, ◌%◌, ◌^◌, ◌<◌, ◌≤◌, zero, suc, List, length, get_or, map, refl, ap, sym, subst, ◌∙◌, arith, add-zero, zero-add, mul-zero, mul-one, lit<, bit_or}
use Rattle.std.proofs.Math.Nat.{add_comm, mul_comm, mod-eq_of_lt, div-one, div-div-eq-div-mul, add-mul-div_right, add-mul-mod_self_right, mul-le-mul_right, lt_of_mul-lt-mul_right}
use Rattle.std.proofs.lemmas.Nat.{or_mod, pow-add, pow_pos, mod_below, shr_split, field_of, shr_below, div-add-mod', shr_high, mul-add-lt, div_below}
use Rattle.std.proofs.lemmas.List.{get_or-map}
use Rattle.std.specs.List.{slice_index}
use Rattle.fastlanes_base.specs.Digits.{digit, lane_number, number_in_base}
use Rattle.fastlanes_base.specs.Element.{IsLayout}
use Rattle.fastlanes_base.specs.Order.{place, row_at}
use Rattle.fastlanes_base.proofs.Places.{lane_at-place, row_at-place}
use Rattle.std.proofs.Math.Pow.{pow_mono}
use Rattle.fastlanes_rows.proofs.Numbers.{join_low, joined_mod}

-- the first m digits, and the others
pub number_parts : (t : ℕ) (f : ℕ → ℕ) → (m n : ℕ) → number_in_base t f (m + n) ≡ number_in_base t f m + number_in_base t (λ j. f (m + j)) n * 2 ^ (t * m)
number_parts t f m zero = rw add-zero (omega arith)
number_parts t f m (suc n) =
    let e : m + suc n ≡ suc (m + n) = omega arith in
    let w : t * (m + n) ≡ t * n + t * m = omega arith in
    let p : 2 ^ (t * (m + n)) ≡ 2 ^ (t * n) * 2 ^ (t * m) = ap (λ (k : ℕ). 2 ^ k) w ∙ pow-add 2 (t * n) (t * m) in
    rw e (rw (number_parts t f m n, p) (omega arith))

-- n digits
pub number_below : (t : ℕ) (f : ℕ → ℕ) → (n : ℕ) → ((k : ℕ) → k < n → f k < 2 ^ t) → number_in_base t f n < 2 ^ (t * n)
number_below t f zero h = rw (mul-zero t) (lit< tt)
number_below t f (suc n) h =
    let e : t * suc n ≡ t + t * n = omega arith in
    let p : 2 ^ (t * suc n) ≡ 2 ^ t * 2 ^ (t * n) = ap (λ (k : ℕ). 2 ^ k) e ∙ pow-add 2 t (t * n) in
    let before : number_in_base t f n < 2 ^ (t * n) = number_below t f n (λ k b. h k (omega arith)) in
    let b : f n * 2 ^ (t * n) + number_in_base t f n < 2 ^ (t * n) * 2 ^ t = mul-add-lt (f n) (2 ^ (t * n)) (number_in_base t f n) (2 ^ t) (h n (omega arith)) before in
    rw p (omega arith)

-- what is left of the number above its first m digits
pub number_above : (t : ℕ) (f : ℕ → ℕ) → (m n : ℕ) → ((k : ℕ) → k < m → f k < 2 ^ t) → number_in_base t f (m + n) / 2 ^ (t * m) ≡ number_in_base t (λ j. f (m + j)) n
number_above t f m n h =
    let turn = add_comm (number_in_base t f m) (number_in_base t (λ j. f (m + j)) n * 2 ^ (t * m)) in
    rw (number_parts t f m n, turn) (shr_high (number_in_base t (λ j. f (m + j)) n) (t * m) (number_in_base t f m) (number_below t f m h))

-- the digits of a number from bit d on do not reach those below it
pub high_drops : (x r d s w : ℕ) → w + s ≤ d → (x + r * 2 ^ d) / 2 ^ s % 2 ^ w ≡ x / 2 ^ s % 2 ^ w
high_drops x r d s w h =
    let e : d ≡ (d - (w + s)) + (w + s) = omega arith in
    let p : 2 ^ d ≡ 2 ^ (d - (w + s)) * 2 ^ (w + s) = ap (λ (k : ℕ). 2 ^ k) e ∙ pow-add 2 (d - (w + s)) (w + s) in
    let m : x + r * 2 ^ d ≡ x + r * 2 ^ (d - (w + s)) * 2 ^ (w + s) = omega (arith, ap (λ (k : ℕ). r * k) p) in
    sym (field_of (x + r * 2 ^ d) w s)
    ∙ ap (λ (k : ℕ). k / 2 ^ s) (ap (λ (k : ℕ). k % 2 ^ (w + s)) m ∙ add-mul-mod_self_right x (r * 2 ^ (d - (w + s))) (2 ^ (w + s)))
    ∙ field_of x w s

-- a remainder of a remainder
pub mod_mod_pow : (x t w : ℕ) → w ≤ t → x % 2 ^ t % 2 ^ w ≡ x % 2 ^ w
mod_mod_pow x t w h =
    let e : x % 2 ^ t + x / 2 ^ t * 2 ^ t ≡ x = omega (arith, shr_split x t) in
    let drop : (x % 2 ^ t + x / 2 ^ t * 2 ^ t) / 2 ^ 0 % 2 ^ w ≡ x % 2 ^ t / 2 ^ 0 % 2 ^ w = high_drops (x % 2 ^ t) (x / 2 ^ t) t 0 w (omega arith) in
    sym (simp (e, div-one) at drop)

-- the number above its first k digits, by the first of these
pub first_word : (t : ℕ) (f : ℕ → ℕ) → (k m : ℕ) → number_in_base t (λ j. f (k + j)) (1 + m) ≡ f k + number_in_base t (λ j. f (k + (1 + j))) m * 2 ^ t
first_word t f k m = number_parts t (λ j. f (k + j)) 1 m ∙ simp (add-zero, zero-add, mul-zero, mul-one)

-- and by the first two
pub first_words : (t : ℕ) (f : ℕ → ℕ) → (k m : ℕ) → number_in_base t (λ j. f (k + j)) (2 + m) ≡ (f k + f (k + 1) * 2 ^ t) + number_in_base t (λ j. f (k + (2 + j))) m * 2 ^ (2 * t)
first_words t f k m = number_parts t (λ j. f (k + j)) 2 m ∙ simp (add-zero, zero-add, mul-zero, mul-one, mul_comm t 2)

-- the bits of a digit that lies in the word k
pub in_one : (t : ℕ) (f : ℕ → ℕ) → (k n s w : ℕ) → k < n → ((j : ℕ) → j < k → f j < 2 ^ t) → w + s ≤ t
    → number_in_base t f n / 2 ^ (t * k + s) % 2 ^ w ≡ f k / 2 ^ s % 2 ^ w
in_one t f k n s w b h le =
    let split : n ≡ k + (1 + (n - k - 1)) = omega arith in
    ap (λ (m : ℕ). number_in_base t f m / 2 ^ (t * k + s) % 2 ^ w) split
    ∙ rw (pow-add 2 (t * k) s, ← div-div-eq-div-mul, number_above t f k (1 + (n - k - 1)) h, first_word t f k (n - k - 1))
    (high_drops (f k) (number_in_base t (λ j. f (k + (1 + j))) (n - k - 1)) t s w le)

-- the bits of a digit that lies in the words k and k + 1
pub in_two : (t : ℕ) (f : ℕ → ℕ) → (k n s w : ℕ) → k + 1 < n → ((j : ℕ) → j < k → f j < 2 ^ t) → w + s ≤ 2 * t
    → number_in_base t f n / 2 ^ (t * k + s) % 2 ^ w ≡ (f k + f (k + 1) * 2 ^ t) / 2 ^ s % 2 ^ w
in_two t f k n s w b h le =
    let split : n ≡ k + (2 + (n - k - 2)) = omega arith in
    ap (λ (m : ℕ). number_in_base t f m / 2 ^ (t * k + s) % 2 ^ w) split
    ∙ rw (pow-add 2 (t * k) s, ← div-div-eq-div-mul, number_above t f k (2 + (n - k - 2)) h, first_words t f k (n - k - 2))
    (high_drops (f k + f (k + 1) * 2 ^ t) (number_in_base t (λ j. f (k + (2 + j))) (n - k - 2)) (2 * t) s w le)

-- two words, joined above bit s of the first
pub joined_inside : (t s w low high : ℕ) → s ≤ t → w ≤ t → low < 2 ^ t
    → bit_or (low / 2 ^ s) (high * 2 ^ (t - s) % 2 ^ t) % 2 ^ w ≡ (low + high * 2 ^ t) / 2 ^ s % 2 ^ w
joined_inside t s w low high inside narrow small =
    let whole : (t - s) + s ≡ t = omega arith in
    let below : low / 2 ^ s < 2 ^ (t - s) = shr_below low (t - s) s (rw whole small) in
    let product : 2 ^ t ≡ 2 ^ (t - s) * 2 ^ s = ap (λ (k : ℕ). 2 ^ k) (sym whole) ∙ pow-add 2 (t - s) s in
    let apart : high * 2 ^ t ≡ high * 2 ^ (t - s) * 2 ^ s = omega (arith, ap (λ (k : ℕ). high * k) product) in
    let both : (low + high * 2 ^ t) / 2 ^ s ≡ low / 2 ^ s + high * 2 ^ (t - s) = ap (λ (k : ℕ). (low + k) / 2 ^ s) apart ∙ add-mul-div_right low (high * 2 ^ (t - s)) (pow_pos s) in
    ap (λ (k : ℕ). k % 2 ^ w) (join_low t (t - s) (low / 2 ^ s) high (omega arith) below) ∙ mod_mod_pow (low / 2 ^ s + high * 2 ^ (t - s)) t w narrow
    ∙ ap (λ (k : ℕ). k % 2 ^ w) (sym both)

joined_part : (t s w rest low high : ℕ) → s ≤ t → w ≤ t → w + s ≡ t + rest → w ≡ (t - s) + rest → low < 2 ^ t
    → bit_or (low / 2 ^ s) ((high % 2 ^ rest * 2 ^ (t - s)) % 2 ^ t) ≡ (low + high * 2 ^ t) / 2 ^ s % 2 ^ w
joined_part t s w rest low high h le whole room b =
    let up : t ≡ (t - s) + s = omega arith in
    let small : low / 2 ^ s < 2 ^ (t - s) = shr_below low (t - s) s (subst (λ (k : ℕ). low < 2 ^ k) up b) in
    let left : t - s ≤ t = omega arith in
    let bits : 2 ^ w ≡ 2 ^ (t - s) * 2 ^ rest = ap (λ (k : ℕ). 2 ^ k) room ∙ pow-add 2 (t - s) rest in
    let in_room : high % 2 ^ rest * 2 ^ (t - s) + low / 2 ^ s < 2 ^ (t - s) * 2 ^ rest =
    mul-add-lt (high % 2 ^ rest) (2 ^ (t - s)) (low / 2 ^ s) (2 ^ rest) (mod_below high (2 ^ rest) (pow_pos rest)) small
    in
    let fits : low / 2 ^ s + high % 2 ^ rest * 2 ^ (t - s) < 2 ^ t = omega (arith, pow_mono le) in
    let p : 2 ^ t ≡ 2 ^ (t - s) * 2 ^ s = ap (λ (k : ℕ). 2 ^ k) up ∙ pow-add 2 (t - s) s in
    let m : low + high % 2 ^ rest * 2 ^ t ≡ low + high % 2 ^ rest * 2 ^ (t - s) * 2 ^ s = omega (arith, ap (λ (k : ℕ). high % 2 ^ rest * k) p) in
    let over : w + s - t ≡ rest = omega arith in
    let part : (low + high * 2 ^ t) % 2 ^ (w + s) ≡ low + high % 2 ^ rest * 2 ^ t =
    joined_mod (w + s) t low high (omega arith) b ∙ ap (λ (k : ℕ). high % 2 ^ k * 2 ^ t + low) over ∙ add_comm _ low
    in
    join_low t (t - s) (low / 2 ^ s) (high % 2 ^ rest) left small
    ∙ mod-eq_of_lt fits
    ∙ sym (ap (λ (k : ℕ). k / 2 ^ s) m ∙ add-mul-div_right low (high % 2 ^ rest * 2 ^ (t - s)) (pow_pos s))
    ∙ ap (λ (k : ℕ). k / 2 ^ s) (sym part)
    ∙ field_of (low + high * 2 ^ t) w s

-- two words: of the first the bits from bit s on, of the second as many as the digit has room for
pub joined_rest : (t s w low high : ℕ) → s ≤ t → w ≤ t → t ≤ s + w → low < 2 ^ t
    → bit_or (low / 2 ^ s) ((high % 2 ^ (s + w - t) * 2 ^ (t - s)) % 2 ^ t) ≡ (low + high * 2 ^ t) / 2 ^ s % 2 ^ w
joined_rest t s w low high h le more b =
    joined_part t s w (s + w - t) low high h le (omega arith) (omega arith) b

-- the same, where the second is moved before it is cut
pub joined_cut : (t s w low high : ℕ) → s ≤ t → w ≤ t → t ≤ s + w → low < 2 ^ t
    → bit_or (low / 2 ^ s) (high * 2 ^ (t - s) % 2 ^ t % 2 ^ w) ≡ (low + high * 2 ^ t) / 2 ^ s % 2 ^ w
joined_cut t s w low high h le more b =
    let whole : (t - s) + s ≡ t = omega arith in
    let room : t - s ≤ w = omega arith in
    let below : low / 2 ^ s < 2 ^ w = omega (arith, shr_below low (t - s) s (rw whole b), pow_mono room) in
    ap (λ (k : ℕ). bit_or k (high * 2 ^ (t - s) % 2 ^ t % 2 ^ w)) (sym (mod-eq_of_lt below))
    ∙ sym (or_mod (low / 2 ^ s) (high * 2 ^ (t - s) % 2 ^ t) w) ∙ joined_inside t s w low high h le b

-- the number whose digits of width t are given by f has f k as digit k
pub digit_is : (t : ℕ) (f : ℕ → ℕ) → (k n : ℕ) → k < n → ((j : ℕ) → f j < 2 ^ t) → number_in_base t f n / 2 ^ (t * k) % 2 ^ t ≡ f k
digit_is t f k n b h = simp (add-zero, div-one) at (in_one t f k n 0 t b (λ j before. h j) (omega arith)) ∙ mod-eq_of_lt (h k)

-- where the bits of a row begin
pub row_start : (t w row : ℕ) → 2 ^ (w * row) ≡ 2 ^ (t * (row * w / t) + row * w % t)
row_start t w row =
    let e : w * row ≡ t * (row * w / t) + row * w % t = omega (arith, div-add-mod' (row * w) t) in
    ap (λ (k : ℕ). 2 ^ k) e

-- the word after the first is one of the lane where the row straddles
pub next_below : (t w row : ℕ) → 0 < t → row < t → t < row * w % t + w → row * w / t + 1 < w
next_below t w row z b h =
    let rows : (row + 1) * w ≤ t * w = mul-le-mul_right w (omega arith) in
    let below : (row * w / t + 1) * t < w * t = omega (arith, div-add-mod' (row * w) t) in
    lt_of_mul-lt-mul_right t below

-- the first word is one of the lane
pub first_below : (t w row : ℕ) → 0 < t → row < t → 0 < w → row * w / t < w
first_below t w row z b h =
    let rows : row * w < t * w = grind arith in
    div_below (row * w) t w z (omega arith)

-- a digit in one word
pub read_one : (t lanes w lane row : ℕ) (p : List ℕ) (x : ℕ) → 0 < t → row < t → 0 < w → row * w % t + w ≤ t
    → slice_index p (lanes * (row * w / t) + lane) ≡ x → x < 2 ^ t
    → x / 2 ^ (row * w % t) % 2 ^ w ≡ lane_number t lanes w lane p / 2 ^ (w * row) % 2 ^ w
read_one t lanes w lane row p x z b some fits is small =
    let word : slice_index p (lanes * (row * w / t) + lane) % 2 ^ t ≡ x = ap (λ (k : ℕ). k % 2 ^ t) is ∙ mod-eq_of_lt small in
    let digit = in_one t (λ k. slice_index p (lanes * k + lane) % 2 ^ t) (row * w / t) w (row * w % t) w (first_below t w row z b some) (λ j before. mod_below _ (2 ^ t) (pow_pos t)) (omega arith) in
    rw (row_start t w row, digit, word) refl

-- a digit in two words
pub read_pair : (t lanes w lane row : ℕ) (p : List ℕ) (x y : ℕ) → 0 < t → row < t → t < row * w % t + w
    → slice_index p (lanes * (row * w / t) + lane) ≡ x → slice_index p (lanes * (row * w / t) + lane + lanes) ≡ y → x < 2 ^ t → y < 2 ^ t → w ≤ t
    → (x + y * 2 ^ t) / 2 ^ (row * w % t) % 2 ^ w ≡ lane_number t lanes w lane p / 2 ^ (w * row) % 2 ^ w
read_pair t lanes w lane row p x y z b more is also small big le =
    let low : row * w % t < t = mod_below (row * w) t z in
    let up : lanes * (row * w / t) + lane + lanes ≡ lanes * (row * w / t + 1) + lane = omega arith in
    let word : slice_index p (lanes * (row * w / t) + lane) % 2 ^ t ≡ x = ap (λ (k : ℕ). k % 2 ^ t) is ∙ mod-eq_of_lt small in
    let next : slice_index p (lanes * (row * w / t + 1) + lane) % 2 ^ t ≡ y = ap (λ (k : ℕ). k % 2 ^ t) (rw up at also) ∙ mod-eq_of_lt big in
    let digit = in_two t (λ k. slice_index p (lanes * k + lane) % 2 ^ t) (row * w / t) w (row * w % t) w (next_below t w row z b more) (λ j before. mod_below _ (2 ^ t) (pow_pos t)) (omega arith) in
    sym (rw (row_start t w row, digit, word, next) refl)

-- the same, of the lowest bits of both words joined
pub read_joined : (t lanes w lane row : ℕ) (p : List ℕ) (x y : ℕ) → 0 < t → row < t → w ≤ t → t < row * w % t + w
    → slice_index p (lanes * (row * w / t) + lane) ≡ x → slice_index p (lanes * (row * w / t) + lane + lanes) ≡ y → x < 2 ^ t → y < 2 ^ t
    → bit_or (x / 2 ^ (row * w % t)) ((y * 2 ^ (t - row * w % t)) % 2 ^ t) % 2 ^ w ≡ lane_number t lanes w lane p / 2 ^ (w * row) % 2 ^ w
read_joined t lanes w lane row p x y z b le more is also small big =
    joined_inside t (row * w % t) w x y (omega (arith, mod_below (row * w) t z)) le small
    ∙ read_pair t lanes w lane row p x y z b more is also small big le

-- the bits of two words joined: at their beginning the low word alone has them
pub joined_at_start : (t w low high : ℕ) → w ≤ t → low / 2 ^ 0 % 2 ^ w ≡ (low + high * 2 ^ t) / 2 ^ 0 % 2 ^ w
joined_at_start t w low high narrow = sym (high_drops low high t 0 w (omega arith))

-- the digit at the place of a row
pub digit-place : (t lanes w lane row : ℕ) (p : List ℕ) → IsLayout t lanes → row < t → lane < lanes
    → digit t lanes w p (place row lane) ≡ lane_number t lanes w lane p / 2 ^ (w * row) % 2 ^ w
unfolding digit
digit-place t lanes w lane row p layout b l =
    ap (λ (i : ℕ). lane_number t lanes w i p / 2 ^ (w * row_at lanes (place row lane)) % 2 ^ w) (lane_at-place t lanes row lane layout b l)
    ∙ ap (λ (r : ℕ). lane_number t lanes w lane p / 2 ^ (w * r) % 2 ^ w) (row_at-place t lanes row lane layout b l)

-- the number of an element of a list
pub number_at_place : {X : Type 0} (number : X → ℕ) (xs : List X) (at k : ℕ) (x : X) → at ≡ k → k < length xs → x ≡ get_or xs k x
    → slice_index (map number xs) at ≡ number x
number_at_place number xs at k x same in_range is = ap (slice_index (map number xs)) same ∙ get_or-map number xs k x 0 in_range ∙ ap number (sym is)
