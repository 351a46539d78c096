-- What is left of bytes by the multiple of the generator has the same remainder as these.
use Rattle.std.proofs.Common.{◌≡◌, ◌+◌, ◌-◌, ◌*◌, ◌/◌, ◌%◌, ◌^◌, ◌<◌, ◌≤◌, ◌++◌, ◌∙◌, ℕ, List, [], ◌∷◌, zero, suc, ap, sym, arith, refl, length, length-append}
use Rattle.std.proofs.lemmas.List.{get_or-append-add, get_or_append_left}
use Rattle.std.proofs.lemmas.Nat.{pow_pos, xor_block, xor_comm, xor_lt}
use Rattle.std.proofs.Math.Nat.{pow-le-pow_right}
use Rattle.std.specs.Int.Bits.{bit_xor, xor_assoc, xor_self, xor_zero_l, xor_zero_r}
use Rattle.fastlanes_checksum.specs.Checksum.{number_of_bytes, register_after, times_x_to}
use Rattle.fastlanes_checksum.specs.Multiple.{byte_at, exponents, number_of_first, pending, span, sum_at, sum_over}
use Rattle.fastlanes_checksum.proofs.Multiples.{of_all, sum_over-same, sum_over-times_x_to, sum_over-xor}
use Rattle.fastlanes_checksum.proofs.Numbers.{number_of_first-below, number_of_first-same, number_of_first-split, number_of_first-sum, number_of_first-xor, number_of_first-list}
use Rattle.fastlanes_checksum.proofs.Polynomials.{same_from_xor, times_x_to-add, times_x_to-below, times_x_to-shifted, times_x_to-xor, xor_pairs, xor_twice}

-- all are bytes
abbrev pub AreBytesAt : (ℕ → ℕ) → Type 0
AreBytesAt t = (i : ℕ) → t i < 256

pub sum_over-byte : (f : ℕ → ℕ) (es : List ℕ) → ((e : ℕ) → f e < 256) → sum_over f es < 256
unfolding sum_over
sum_over-byte f [] bytes = omega arith
sum_over-byte f (e ∷ es) bytes = xor_lt 8 (f e) (sum_over f es) (bytes e) (sum_over-byte f es bytes)

number_of_first-none : (n : ℕ) → number_of_first (λ i. 0) n ≡ 0
unfolding number_of_first
number_of_first-none zero = refl
number_of_first-none (suc n) = omega (arith, number_of_first-none n)

-- the number of sums is the sum of numbers
pub number_of_first-sum_over : (t : ℕ → ℕ) (n : ℕ) (es : List ℕ) → AreBytesAt t
    → number_of_first (λ i. sum_over (λ e. t (e + i)) es) n ≡ sum_over (λ e. number_of_first (λ i. t (e + i)) n) es
unfolding sum_over
number_of_first-sum_over t n [] bytes = number_of_first-none n
number_of_first-sum_over t n (e ∷ es) bytes =
    number_of_first-xor (λ i. t (e + i)) (λ i. sum_over (λ e. t (e + i)) es) n (λ i within. bytes (e + i)) (λ i within. sum_over-byte (λ e. t (e + i)) es (λ e. bytes (e + i)))
    ∙ ap (bit_xor (number_of_first (λ i. t (e + i)) n)) (number_of_first-sum_over t n es bytes)

xor_shifted_both : (a b k : ℕ) → bit_xor (a * 2 ^ k) (b * 2 ^ k) ≡ bit_xor a b * 2 ^ k
xor_shifted_both a b k =
    let block : bit_xor (a * 2 ^ k + 0) (b * 2 ^ k + 0) ≡ bit_xor a b * 2 ^ k + bit_xor 0 0 = xor_block k a b 0 0 (pow_pos k) (pow_pos k) in
    let first : a * 2 ^ k + 0 ≡ a * 2 ^ k = omega arith in
    let second : b * 2 ^ k + 0 ≡ b * 2 ^ k = omega arith in
    let none : bit_xor a b * 2 ^ k + 0 ≡ bit_xor a b * 2 ^ k = omega arith in
    ap (λ n. bit_xor n (b * 2 ^ k)) (sym first) ∙ ap (bit_xor (a * 2 ^ k + 0)) (sym second) ∙ block ∙ none

sum_over-shifted : (f : ℕ → ℕ) (k : ℕ) (es : List ℕ) → sum_over (λ e. f e * 2 ^ k) es ≡ sum_over f es * 2 ^ k
unfolding sum_over
sum_over-shifted f k [] = omega arith
sum_over-shifted f k (e ∷ es) = ap (bit_xor (f e * 2 ^ k)) (sum_over-shifted f k es) ∙ xor_shifted_both (f e) (sum_over f es) k

swapped : (b x s y : ℕ) → bit_xor b x ≡ bit_xor s y → bit_xor s b ≡ bit_xor x y
swapped b x s y same =
    same_from_xor (bit_xor s b) (bit_xor x y)
    (ap (λ n. bit_xor n (bit_xor x y)) (xor_comm s b) ∙ xor_pairs b s x y ∙ ap (λ n. bit_xor n (bit_xor s y)) same ∙ xor_self (bit_xor s y))

-- the bytes from one exponent's place on, with those behind them, cut in two ways
cut_twice : (t : ℕ → ℕ) (n e : ℕ) → AreBytesAt t → e ≤ span
    → bit_xor (number_of_first (λ i. t (e + i)) n) (number_of_first (λ i. t (n + (e + i))) (span - e) * 2 ^ (8 * n))
    ≡ bit_xor (number_of_first (λ i. t (e + i)) (span - e)) (number_of_first (λ i. t (span + i)) n * 2 ^ (8 * (span - e)))
cut_twice t n e bytes within =
    let left = span - e in
    let at = λ (i : ℕ). t (e + i) in
    let order : n + left ≡ left + n = omega arith in
    let behind : number_of_first (λ i. t (n + (e + i))) left ≡ number_of_first (λ i. at (n + i)) left = number_of_first-same (λ i. t (n + (e + i))) (λ i. at (n + i)) left (λ i below. let same : n + (e + i) ≡ e + (n + i) = omega arith in ap t same) in
    let quotient : number_of_first (λ i. at (left + i)) n ≡ number_of_first (λ i. t (span + i)) n = number_of_first-same (λ i. at (left + i)) (λ i. t (span + i)) n (λ i below. let same : e + (left + i) ≡ span + i = omega (arith, within) in ap t same) in
    ap (λ m. bit_xor (number_of_first at n) (m * 2 ^ (8 * n))) behind
    ∙ sym (number_of_first-split at n left (λ i below. bytes (e + i)))
    ∙ ap (number_of_first at) order
    ∙ number_of_first-split at left n (λ i below. bytes (e + i))
    ∙ ap (λ m. bit_xor (number_of_first at left) (m * 2 ^ (8 * left))) quotient

-- the quotient times the multiple is none of a remainder
quotient_leaves_none : (q n r : ℕ) → q < 2 ^ (8 * n) → span ≤ r → times_x_to (8 * (n + r)) (sum_over (λ e. q * 2 ^ (8 * (span - e))) exponents) ≡ 0
quotient_leaves_none q n r below within =
    let whole = 8 * (n + r) in
    let more = 8 * (n + (r - span)) in
    let each : (e : ℕ) → e ≤ span → times_x_to whole (q * 2 ^ (8 * (span - e))) ≡ times_x_to (8 * e) (times_x_to more q) = λ e least.
    let order : whole ≡ 8 * (span - e) + (more + 8 * e) = omega (arith, within, least) in
    ap (λ m. times_x_to m (q * 2 ^ (8 * (span - e)))) order
    ∙ times_x_to-add (8 * (span - e)) (more + 8 * e) (q * 2 ^ (8 * (span - e)))
    ∙ ap (times_x_to (more + 8 * e)) (times_x_to-shifted (8 * (span - e)) q)
    ∙ times_x_to-add more (8 * e) q in
    let wide : 2 ^ (8 * n) ≤ 2 ^ (more + 32) = pow-le-pow_right (omega arith) (omega arith) in
    sym (sum_over-times_x_to whole (λ e. q * 2 ^ (8 * (span - e))) exponents)
    ∙ sum_over-same (λ e. times_x_to whole (q * 2 ^ (8 * (span - e)))) (λ e. times_x_to (8 * e) (times_x_to more q)) each
    ∙ of_all 32 (times_x_to more q) (omega arith) (times_x_to-below more q (omega (arith, below, wide)))

-- n bytes are divided, of which `t` from the span on has the quotient: what is pending then, with `rest`, of r bytes, has the same remainder
pub divided : (t b : ℕ → ℕ) (n r rest : ℕ) → AreBytesAt t → ((i : ℕ) → i < n → b i ≡ sum_at t i) → span ≤ r
    → times_x_to (8 * (n + r)) (bit_xor (pending t) (bit_xor (number_of_first b n) (rest * 2 ^ (8 * n))))
    ≡ times_x_to (8 * r) (bit_xor (pending (λ i. t (n + i))) rest)
unfolding pending sum_at
divided t b n r rest bytes each within =
    let before = pending t in
    let after = pending (λ i. t (n + i)) in
    let quotient = number_of_first (λ i. t (span + i)) n in
    let product = sum_over (λ e. quotient * 2 ^ (8 * (span - e))) exponents in
    let bits = 8 * n in
    let given : number_of_first b n ≡ sum_over (λ e. number_of_first (λ i. t (e + i)) n) exponents =
    number_of_first-same b (sum_at t) n each ∙ number_of_first-sum_over t n exponents bytes in
    let cut : bit_xor (number_of_first b n) (after * 2 ^ bits) ≡ bit_xor before product =
    ap (λ m. bit_xor m (after * 2 ^ bits)) given
    ∙ ap (bit_xor (sum_over (λ e. number_of_first (λ i. t (e + i)) n) exponents)) (sym (sum_over-shifted (λ e. number_of_first (λ i. t (n + (e + i))) (span - e)) bits exponents))
    ∙ sym (sum_over-xor (λ e. number_of_first (λ i. t (e + i)) n) (λ e. number_of_first (λ i. t (n + (e + i))) (span - e) * 2 ^ bits) exponents)
    ∙ sum_over-same _ _ (λ e least. cut_twice t n e bytes least)
    ∙ sum_over-xor (λ e. number_of_first (λ i. t (e + i)) (span - e)) (λ e. quotient * 2 ^ (8 * (span - e))) exponents in
    let sums : bit_xor before (bit_xor (number_of_first b n) (rest * 2 ^ bits)) ≡ bit_xor (bit_xor after rest * 2 ^ bits) product =
    sym (xor_assoc before (number_of_first b n) (rest * 2 ^ bits))
    ∙ ap (λ m. bit_xor m (rest * 2 ^ bits)) (swapped (number_of_first b n) (after * 2 ^ bits) before product cut)
    ∙ xor_assoc (after * 2 ^ bits) product (rest * 2 ^ bits)
    ∙ ap (bit_xor (after * 2 ^ bits)) (xor_comm product (rest * 2 ^ bits))
    ∙ sym (xor_assoc (after * 2 ^ bits) (rest * 2 ^ bits) product)
    ∙ ap (λ m. bit_xor m product) (xor_shifted_both after rest bits) in
    let order : 8 * (n + r) ≡ bits + 8 * r = omega arith in
    let small : quotient < 2 ^ bits = number_of_first-below (λ i. t (span + i)) n (λ i below. bytes (span + i)) in
    ap (times_x_to (8 * (n + r))) sums
    ∙ times_x_to-xor (8 * (n + r)) (bit_xor after rest * 2 ^ bits) product
    ∙ ap (bit_xor (times_x_to (8 * (n + r)) (bit_xor after rest * 2 ^ bits))) (quotient_leaves_none quotient n r small within)
    ∙ xor_zero_r (times_x_to (8 * (n + r)) (bit_xor after rest * 2 ^ bits))
    ∙ ap (λ m. times_x_to m (bit_xor after rest * 2 ^ bits)) order
    ∙ times_x_to-add bits (8 * r) (bit_xor after rest * 2 ^ bits)
    ∙ ap (times_x_to (8 * r)) (times_x_to-shifted bits (bit_xor after rest))

-- the number of bytes that are followed by others
number_of_bytes-append : (xs ys : List ℕ) → ((i : ℕ) → i < length xs → byte_at xs i < 256)
    → number_of_bytes (xs ++ ys) ≡ bit_xor (number_of_first (byte_at xs) (length xs)) (number_of_bytes ys * 2 ^ (8 * length xs))
number_of_bytes-append xs ys bytes =
    let both = byte_at (xs ++ ys) in
    let n = length xs in
    let first : (i : ℕ) → i < n → both i ≡ byte_at xs i = λ i below. get_or_append_left xs ys 0 i below in
    let second : number_of_first (λ i. both (n + i)) (length ys) ≡ number_of_bytes ys = number_of_first-same (λ i. both (n + i)) (byte_at ys) (length ys) (λ i below. get_or-append-add xs ys i 0) ∙ sym (number_of_first-list ys) in
    number_of_first-list (xs ++ ys) ∙ ap (number_of_first both) (length-append xs ys)
    ∙ number_of_first-split both n (length ys) (λ i below. rw (first i below) (bytes i below))
    ∙ ap (λ m. bit_xor m (number_of_first (λ i. both (n + i)) (length ys) * 2 ^ (8 * n))) (number_of_first-same both (byte_at xs) n first)
    ∙ ap (λ m. bit_xor (number_of_first (byte_at xs) n) (m * 2 ^ (8 * n))) second

-- the same, of bytes and whatever follows them
pub divided_bytes : (t : ℕ → ℕ) (bytes rest : List ℕ) → AreBytesAt t → ((i : ℕ) → i < length bytes → byte_at bytes i < 256)
    → ((i : ℕ) → i < length bytes → byte_at bytes i ≡ sum_at t i) → span ≤ length rest
    → register_after (pending t) (bytes ++ rest) ≡ register_after (pending (λ i. t (length bytes + i))) rest
unfolding register_after
divided_bytes t bytes rest are_bytes below each within =
    let n = length bytes in
    let long : 8 * length (bytes ++ rest) ≡ 8 * (n + length rest) = ap (λ m. 8 * m) (length-append bytes rest) in
    ap (λ m. times_x_to m (bit_xor (pending t) (number_of_bytes (bytes ++ rest)))) long
    ∙ ap (λ m. times_x_to (8 * (n + length rest)) (bit_xor (pending t) m)) (number_of_bytes-append bytes rest below)
    ∙ divided t (byte_at bytes) n (length rest) (number_of_bytes rest) are_bytes each within

number_of_first-zeros : (f : ℕ → ℕ) (n : ℕ) → ((i : ℕ) → i < n → f i ≡ 0) → number_of_first f n ≡ 0
number_of_first-zeros f n zeros = number_of_first-same f (λ i. 0) n zeros ∙ number_of_first-none n

-- zeros behind make no difference
number_of_first-ended : (f : ℕ → ℕ) (m n : ℕ) → ((i : ℕ) → i < n → f (m + i) ≡ 0) → number_of_first f (m + n) ≡ number_of_first f m
number_of_first-ended f m n zeros =
    let none : number_of_first (λ i. f (m + i)) n ≡ 0 = number_of_first-zeros (λ i. f (m + i)) n zeros in
    number_of_first-sum f m n ∙ ap (λ k. number_of_first f m + k * 2 ^ (8 * m)) none ∙ omega arith

-- what is left of the last span has the same remainder
pub remainder_of_last : (t : ℕ → ℕ) (bytes left : List ℕ) → AreBytesAt t → ((i : ℕ) → i < length bytes → byte_at bytes i < 256)
    → length bytes ≡ span → length left ≡ span → ((i : ℕ) → i < span → t (span + i) ≡ 0)
    → ((i : ℕ) → i < span → byte_at left i ≡ bit_xor (byte_at bytes i) (sum_at t i))
    → register_after 0 left ≡ register_after (pending t) bytes
unfolding register_after pending sum_at
remainder_of_last t bytes left are_bytes below long as_long ended each =
    let sums = number_of_first (sum_at t) span in
    let whole : sums ≡ pending t =
    number_of_first-sum_over t span exponents are_bytes
    ∙ sum_over-same _ _ (λ e within.
    let order : span ≡ span - e + e = omega (arith, within) in
    ap (number_of_first (λ i. t (e + i))) order
    ∙ number_of_first-ended (λ i. t (e + i)) (span - e) e (λ i under. let place : e + (span - e + i) ≡ span + i = omega (arith, within) in ap t place ∙ ended i (omega (arith, under, within)))) in
    let number : number_of_bytes left ≡ bit_xor (number_of_bytes bytes) (pending t) =
    number_of_first-list left ∙ ap (number_of_first (byte_at left)) as_long
    ∙ number_of_first-same (byte_at left) (λ i. bit_xor (byte_at bytes i) (sum_at t i)) span each
    ∙ number_of_first-xor (byte_at bytes) (sum_at t) span (λ i under. below i (omega (arith, under, long))) (λ i under. sum_over-byte (λ e. t (e + i)) exponents (λ e. are_bytes (e + i)))
    ∙ ap (bit_xor (number_of_first (byte_at bytes) span)) whole
    ∙ ap (λ m. bit_xor m (pending t)) (ap (number_of_first (byte_at bytes)) (sym long) ∙ sym (number_of_first-list bytes)) in
    ap (λ m. times_x_to (8 * length left) m) (xor_zero_l (number_of_bytes left) ∙ number ∙ xor_comm (number_of_bytes bytes) (pending t))
    ∙ ap (λ m. times_x_to (8 * m) (bit_xor (pending t) (number_of_bytes bytes))) (as_long ∙ sym long)

four_bytes : (t : ℕ → ℕ) (start : ℕ) → start < 2 ^ 32 → t 0 ≡ start % 256 → t 1 ≡ start / 256 % 256 → t 2 ≡ start / 65536 % 256 → t 3 ≡ start / 16777216
    → number_of_first t 4 ≡ start
unfolding number_of_first
four_bytes t start small first second third fourth = omega (arith, small, first, second, third, fourth)

-- at first the register alone is pending
pub pending_at_first : (t : ℕ → ℕ) (start : ℕ) → start < 2 ^ 32 → t 0 ≡ start % 256 → t 1 ≡ start / 256 % 256 → t 2 ≡ start / 65536 % 256 → t 3 ≡ start / 16777216
    → ((i : ℕ) → 4 ≤ i → t i ≡ 0) → pending t ≡ start
unfolding pending sum_over
pending_at_first t start small first second third fourth zeros =
    let from = λ (e : ℕ). number_of_first (λ i. t (e + i)) (span - e) in
    let none : (e : ℕ) (es : List ℕ) → 4 ≤ e → sum_over from es ≡ 0 → sum_over from (e ∷ es) ≡ 0 = λ e es behind rest.
    ap (bit_xor (from e)) rest ∙ xor_zero_r (from e) ∙ number_of_first-zeros (λ i. t (e + i)) (span - e) (λ i below. zeros (e + i) (omega (arith, behind))) in
    let others : sum_over from (112 ∷ 312 ∷ 432 ∷ 1152 ∷ 1672 ∷ []) ≡ 0 =
    none 112 (312 ∷ 432 ∷ 1152 ∷ 1672 ∷ []) (omega arith) (none 312 (432 ∷ 1152 ∷ 1672 ∷ []) (omega arith) (none 432 (1152 ∷ 1672 ∷ []) (omega arith) (none 1152 (1672 ∷ []) (omega arith) (none 1672 [] (omega arith) refl)))) in
    let place : (i : ℕ) → 0 + i ≡ i = λ i. omega arith in
    ap (bit_xor (from 0)) others ∙ xor_zero_r (from 0)
    ∙ number_of_first-same (λ i. t (0 + i)) t 1672 (λ i below. ap t (place i))
    ∙ number_of_first-ended t 4 1668 (λ i below. zeros (4 + i) (omega arith))
    ∙ four_bytes t start small first second third fourth

pub pending-same : (t u : ℕ → ℕ) → ((i : ℕ) → i < span → t i ≡ u i) → pending t ≡ pending u
unfolding pending
pending-same t u same = sum_over-same _ _ (λ e within. number_of_first-same (λ i. t (e + i)) (λ i. u (e + i)) (span - e) (λ i below. same (e + i) (omega (arith, within, below))))

pub sum_at-same : (t u : ℕ → ℕ) (i : ℕ) → ((k : ℕ) → k ≤ span + i → t k ≡ u k) → sum_at t i ≡ sum_at u i
unfolding sum_at
sum_at-same t u i same = sum_over-same _ _ (λ e within. same (e + i) (omega (arith, within)))

xor_back : (a b : ℕ) → bit_xor b (bit_xor a b) ≡ a
xor_back a b = xor_comm b (bit_xor a b) ∙ xor_twice a b

-- the bytes at one place and the exponents from there on, but the last
abbrev five : (ℕ → ℕ) → ℕ → ℕ
five t i = bit_xor (t i) (bit_xor (t (112 + i)) (bit_xor (t (312 + i)) (bit_xor (t (432 + i)) (t (1152 + i)))))

-- the same, in the order of the code
abbrev pub with_five : (ℕ → ℕ) → ℕ → ℕ → ℕ
with_five t i b = bit_xor (bit_xor (bit_xor (bit_xor (bit_xor b (t i)) (t (112 + i))) (t (312 + i))) (t (432 + i))) (t (1152 + i))

sum_of_five : (a b c d e : ℕ) (z : ℕ) → bit_xor a (bit_xor b (bit_xor c (bit_xor d (bit_xor e z)))) ≡ bit_xor (bit_xor a (bit_xor b (bit_xor c (bit_xor d e)))) z
sum_of_five a b c d e z =
    ap (bit_xor a) (ap (bit_xor b) (ap (bit_xor c) (sym (xor_assoc d e z)) ∙ sym (xor_assoc c (bit_xor d e) z)) ∙ sym (xor_assoc b (bit_xor c (bit_xor d e)) z))
    ∙ sym (xor_assoc a (bit_xor b (bit_xor c (bit_xor d e))) z)

sum_at-five : (t : ℕ → ℕ) (i : ℕ) → sum_at t i ≡ bit_xor (five t i) (t (1672 + i))
unfolding sum_at sum_over
sum_at-five t i =
    let first : 0 + i ≡ i = omega arith in
    sum_of_five (t (0 + i)) (t (112 + i)) (t (312 + i)) (t (432 + i)) (t (1152 + i)) (bit_xor (t (1672 + i)) 0)
    ∙ ap (λ k. bit_xor (bit_xor (t k) (bit_xor (t (112 + i)) (bit_xor (t (312 + i)) (bit_xor (t (432 + i)) (t (1152 + i)))))) (bit_xor (t (1672 + i)) 0)) first
    ∙ ap (bit_xor (five t i)) (xor_zero_r (t (1672 + i)))

with_five-five : (t : ℕ → ℕ) (i b : ℕ) → with_five t i b ≡ bit_xor b (five t i)
with_five-five t i b =
    ap (λ m. bit_xor m (t (1152 + i))) (ap (λ m. bit_xor m (t (432 + i))) (ap (λ m. bit_xor m (t (312 + i))) (xor_assoc b (t i) (t (112 + i))) ∙ xor_assoc b (bit_xor (t i) (t (112 + i))) (t (312 + i)))
    ∙ xor_assoc b (bit_xor (bit_xor (t i) (t (112 + i))) (t (312 + i))) (t (432 + i)))
    ∙ xor_assoc b (bit_xor (bit_xor (bit_xor (t i) (t (112 + i))) (t (312 + i))) (t (432 + i))) (t (1152 + i))
    ∙ ap (bit_xor b) (ap (λ m. bit_xor m (t (1152 + i))) (ap (λ m. bit_xor m (t (432 + i))) (xor_assoc (t i) (t (112 + i)) (t (312 + i))) ∙ xor_assoc (t i) (bit_xor (t (112 + i)) (t (312 + i))) (t (432 + i)))
    ∙ xor_assoc (t i) (bit_xor (bit_xor (t (112 + i)) (t (312 + i))) (t (432 + i))) (t (1152 + i))
    ∙ ap (bit_xor (t i)) (ap (λ m. bit_xor m (t (1152 + i))) (xor_assoc (t (112 + i)) (t (312 + i)) (t (432 + i))) ∙ xor_assoc (t (112 + i)) (bit_xor (t (312 + i)) (t (432 + i))) (t (1152 + i))
    ∙ ap (bit_xor (t (112 + i))) (xor_assoc (t (312 + i)) (t (432 + i)) (t (1152 + i)))))

-- a quotient's byte is what makes the sum that of the bytes that are divided
pub sum_of_quotient : (t : ℕ → ℕ) (i b : ℕ) → t (1672 + i) ≡ with_five t i b → b ≡ sum_at t i
sum_of_quotient t i b is = sym (sum_at-five t i ∙ ap (bit_xor (five t i)) (is ∙ with_five-five t i b) ∙ xor_back b (five t i))

-- where the quotient has ended, the sum is of five
pub sum_of_none : (t : ℕ → ℕ) (i b : ℕ) → t (1672 + i) ≡ 0 → with_five t i b ≡ bit_xor b (sum_at t i)
sum_of_none t i b none = with_five-five t i b ∙ ap (bit_xor b) (sym (sum_at-five t i ∙ ap (bit_xor (five t i)) none ∙ xor_zero_r (five t i)))
