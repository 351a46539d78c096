use Rattle.std.proofs.Common.{◌≡◌, ℕ, ℤ, ◌%◌, ◌^◌, ◌<◌, Option, None, Some, pos, ap, arith, refl, rules, ◌∙◌}
use Rattle.std.proofs.Math.Nat.{mod-eq_of_lt}
use Rattle.std.proofs.Math.Pow.{pow_mono}
use Rattle.std.specs.Option.{IfSome}
use Rattle.num_traits.specs.Laws.{ChecksUnsigned}
use Rattle.fastlanes_base.specs.Element.{IsWordSize}
use Rattle.fastlanes_base.proofs.element.number_of.Goals as goal

checked_number : (n : ℕ) (answer : Option ℕ) → n < 2 ^ 64 → ChecksUnsigned 64 (pos n) answer → answer ≡ Some n
checked_number n None fits checks = absurd (checks fits)
checked_number n (Some m) fits checks = let same = checks.1 in cc

-- a word's lowest bits, where its number is below what they are taken from, convert to that number
gives_number : (t n m low : ℕ) (integer : Option ℤ) (answer : Option ℕ) → IsWordSize t → n < 2 ^ t → integer ≡ Some (pos low)
    → IfSome integer (λ z. ChecksUnsigned 64 z answer) → low ≡ n % m → n < m → answer ≡ Some n
gives_number t n m low integer answer size below is checks is_low all =
    let whole : low ≡ n = is_low ∙ mod-eq_of_lt all in
    let fits : n < 2 ^ 64 = omega (arith, pow_mono {i = t} {j = 64} (omega (arith, size))) in
    checked_number n answer fits (rw (is, whole) at checks)

as_wide : (t k n : ℕ) → n < 2 ^ t → k ≡ t → n < 2 ^ k
as_wide t k n below is = rw is below

pub unwrap-requires : goal.unwrap-requires
unwrap-requires g c =
    let integer = g.met.E.ToPrimitive.integer_law c.word_low.result g.met.E.Integral.exact_law ∙ ap Some (g.met.E.FastLanes.number_law c.word_low.result) in
    let given = gives_number g.E.FastLanes.T (g.E.FastLanes.number c.args.word) _ _ _ c.to_u64.result g.met.E.FastLanes.bits_law
    c.word_low.ensures.below integer c.to_u64.ensures.some c.word_low.ensures.value (search (rules, as_wide)) in
    rw given refl

pub returns : goal.returns
returns g c =
    let integer = g.met.E.ToPrimitive.integer_law c.word_low.result g.met.E.Integral.exact_law ∙ ap Some (g.met.E.FastLanes.number_law c.word_low.result) in
    let given = gives_number g.E.FastLanes.T (g.E.FastLanes.number c.args.word) _ _ _ c.to_u64.result g.met.E.FastLanes.bits_law
    c.word_low.ensures.below integer c.to_u64.ensures.some c.word_low.ensures.value (search (rules, as_wide)) in
    cc
