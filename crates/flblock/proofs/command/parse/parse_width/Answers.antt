use Rattle.std.proofs.Common.{ℕ, ◌<◌, ◌^◌, Option, Some, None, arith}
use Rattle.std.specs.Prelude.{IfNone, IsSome, All}
use Rattle.std.specs.Char.{IsAsciiDigit}
use Rattle.std.proofs.lemmas.List.Elements.{All-cons, All-head, All-nil, All-tail}
use Rattle.std.proofs.lemmas.Str.Parse.{IsDigitsTest, IsNumeralModel, numerals_by_value, parse_gives, digits_value_short}
use Rattle.std.specs.Str.Parse.{digits_value}
use Rattle.flblock.specs.Words.{IsDecimal}
use Rattle.flblock.proofs.command.parse.parse_width.Goals as goal

digits_test : IsDigitsTest (All IsAsciiDigit)
digits_test = record {
  empty = All-nil IsAsciiDigit;
  parts = λ c cs h. (All-head IsAsciiDigit c cs h, All-tail IsAsciiDigit c cs h);
  more = All-cons IsAsciiDigit;
}

own : IsNumeralModel (All IsAsciiDigit) (digits_value 10)
own = numerals_by_value (All IsAsciiDigit) digits_test

not_none : (o : Option ℕ) (P : Type 0) → (P → IsSome o) → IfNone o (P → ⊥)
not_none (Some x) P h = tt
not_none None P h = λ p. let e = h p in absurd (cc)

pub returns-clause-other : goal.returns-clause-other
returns-clause-other c =
    let text = c.args.word.now in
    not_none c.ok.result (IsDecimal text) (λ n.
    let small : digits_value 10 text < 2 ^ 64 = omega (arith, digits_value_short own text 9 n.digits_only n.few) in
    let parsed = parse_gives own 64 text c.parse.result c.parse.ensures.value.0 n.digits_only n.some small in rw parsed at c.ok.ensures.variant)
