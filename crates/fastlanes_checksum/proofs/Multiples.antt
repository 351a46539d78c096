-- Sums over the terms of the generator's multiple, and that it is one.
use Rattle.std.proofs.Common.{◌≡◌, ◌+◌, ◌-◌, ◌*◌, ◌/◌, ◌%◌, ◌^◌, ◌<◌, ◌≤◌, ◌∙◌, ℕ, List, [], ◌∷◌, zero, suc, ap, sym, arith, refl}
use Rattle.std.specs.Prelude.{⊤}
use Rattle.std.proofs.lemmas.Nat.{mod_below, pow-add, pow_pos, shr_below}
use Rattle.std.proofs.Math.Nat.{mod-add-div'}
use Rattle.std.specs.Int.Bits.{bit_xor}
use Rattle.fastlanes_checksum.specs.Checksum.{times_x_to}
use Rattle.fastlanes_checksum.specs.Multiple.{exponents, span, sum_over}
use Rattle.fastlanes_checksum.proofs.Polynomials.{times_x_to-add, times_x_to-shifted, times_x_to-xor, times_x_to-zero, xor_apart, xor_pairs}

pub sum_over-xor : (f g : ℕ → ℕ) (es : List ℕ) → sum_over (λ e. bit_xor (f e) (g e)) es ≡ bit_xor (sum_over f es) (sum_over g es)
unfolding sum_over
sum_over-xor f g [] = refl
sum_over-xor f g (e ∷ es) =
    ap (bit_xor (bit_xor (f e) (g e))) (sum_over-xor f g es) ∙ xor_pairs (f e) (g e) (sum_over f es) (sum_over g es)

pub sum_over-times_x_to : (n : ℕ) (f : ℕ → ℕ) (es : List ℕ) → sum_over (λ e. times_x_to n (f e)) es ≡ times_x_to n (sum_over f es)
unfolding sum_over
sum_over-times_x_to n f [] = sym (times_x_to-zero n)
sum_over-times_x_to n f (e ∷ es) =
    ap (bit_xor (times_x_to n (f e))) (sum_over-times_x_to n f es) ∙ sym (times_x_to-xor n (f e) (sum_over f es))

-- the multiple of a polynomial
abbrev pub multiple : ℕ → ℕ
multiple p = sum_over (λ e. times_x_to (8 * e) p) exponents

-- that of 1, and so of every polynomial, is none
of_one : multiple (2 ^ 31) ≡ 0
unfolding sum_over times_x_to
of_one = refl

-- each of these is at most the span
abbrev AreWithin : List ℕ → Type 0
AreWithin [] = ⊤
AreWithin (e ∷ es) = (e ≤ span) × AreWithin es

same_within : (f g : ℕ → ℕ) (es : List ℕ) → AreWithin es → ((e : ℕ) → e ≤ span → f e ≡ g e) → sum_over f es ≡ sum_over g es
unfolding sum_over
same_within f g [] within same = refl
same_within f g (e ∷ es) (first, others) same = ap (λ n. bit_xor n (sum_over f es)) (same e first) ∙ ap (bit_xor (g e)) (same_within f g es others same)

pub sum_over-same : (f g : ℕ → ℕ) → ((e : ℕ) → e ≤ span → f e ≡ g e) → sum_over f exponents ≡ sum_over g exponents
sum_over-same f g same = same_within f g exponents (omega arith, (omega arith, (omega arith, (omega arith, (omega arith, (omega arith, tt)))))) same

multiple-xor : (p q : ℕ) → multiple (bit_xor p q) ≡ bit_xor (multiple p) (multiple q)
multiple-xor p q =
    sum_over-same (λ e. times_x_to (8 * e) (bit_xor p q)) (λ e. bit_xor (times_x_to (8 * e) p) (times_x_to (8 * e) q)) (λ e within. times_x_to-xor (8 * e) p q)
    ∙ sum_over-xor (λ e. times_x_to (8 * e) p) (λ e. times_x_to (8 * e) q) exponents

multiple-times_x_to : (n p : ℕ) → multiple (times_x_to n p) ≡ times_x_to n (multiple p)
multiple-times_x_to n p =
    sum_over-same (λ e. times_x_to (8 * e) (times_x_to n p)) (λ e. times_x_to n (times_x_to (8 * e) p)) (λ e within.
    let order : n + 8 * e ≡ 8 * e + n = omega arith in
    sym (times_x_to-add n (8 * e) p) ∙ ap (λ m. times_x_to m p) order ∙ times_x_to-add (8 * e) n p)
    ∙ sum_over-times_x_to n (λ e. times_x_to (8 * e) p) exponents

of_none : multiple 0 ≡ 0
unfolding sum_over times_x_to
of_none = refl

of_power : (k : ℕ) → k < 32 → multiple (2 ^ k) ≡ 0
of_power k within =
    let whole : 2 ^ k * 2 ^ (31 - k) ≡ 2 ^ 31 = let order : k + (31 - k) ≡ 31 = omega (arith, within) in sym (pow-add 2 k (31 - k)) ∙ ap (λ n. 2 ^ n) order in
    ap multiple (sym (ap (times_x_to (31 - k)) (sym whole) ∙ times_x_to-shifted (31 - k) (2 ^ k)))
    ∙ multiple-times_x_to (31 - k) (2 ^ 31)
    ∙ ap (times_x_to (31 - k)) of_one
    ∙ times_x_to-zero (31 - k)

of_bit : (k bit : ℕ) → k < 32 → bit < 2 → multiple (bit * 2 ^ k) ≡ 0
of_bit k zero within below = let none : 0 * 2 ^ k ≡ 0 = omega arith in ap multiple none ∙ of_none
of_bit k (suc zero) within below = let one : 1 * 2 ^ k ≡ 2 ^ k = omega arith in ap multiple one ∙ of_power k within
of_bit k (suc (suc bit)) within below = absurd (omega arith)

pub of_all : (k p : ℕ) → k ≤ 32 → p < 2 ^ k → multiple p ≡ 0
of_all zero p within below = let none : p ≡ 0 = omega (arith, below) in ap multiple none ∙ of_none
of_all (suc k) p within below =
    let rest = p % 2 ^ k in
    let bit = p / 2 ^ k in
    let small : rest < 2 ^ k = mod_below p (2 ^ k) (pow_pos k) in
    let apart : p ≡ bit_xor rest (bit * 2 ^ k) = sym (xor_apart k rest bit small ∙ mod-add-div' p (2 ^ k)) in
    ap multiple apart ∙ multiple-xor rest (bit * 2 ^ k)
    ∙ ap (λ n. bit_xor n (multiple (bit * 2 ^ k))) (of_all k rest (omega (arith, within)) small)
    ∙ ap (bit_xor 0) (of_bit k bit (omega (arith, within)) (let order : suc k ≡ 1 + k = omega arith in shr_below p 1 k (rw order at below)))
