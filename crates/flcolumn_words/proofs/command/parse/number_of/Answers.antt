use Rattle.std.proofs.Common.{ℕ, Option, Some, None}
use Rattle.std.specs.Prelude.{All, IfNone, IsSome}
use Rattle.std.specs.Char.{IsAsciiDigit}
use Rattle.std.proofs.lemmas.List.Elements.{All-cons, All-head, All-nil, All-tail}
use Rattle.std.proofs.lemmas.Str.Parse.{IsDigitsTest, IsNumeralModel, numerals_by_value, parse_gives}
use Rattle.std.specs.Str.Parse.{digits_value}
use Rattle.flcolumn_words.specs.Requests.{IsNumber}
use Rattle.flcolumn_words.proofs.command.parse.number_of.Goals as goal

digits_test : IsDigitsTest (All IsAsciiDigit)
digits_test = record {
  empty = All-nil IsAsciiDigit;
  parts = λ c cs h. (All-head IsAsciiDigit c cs h, All-tail IsAsciiDigit c cs h);
  more = All-cons IsAsciiDigit;
}

own : IsNumeralModel (All IsAsciiDigit) (digits_value 10)
own = numerals_by_value (All IsAsciiDigit) digits_test

not_none : (o : Option ℕ) (P : Type 0) → (P → IsSome o) → IfNone o (P → ⊥)
not_none (Some x) P h = tt
not_none None P h = λ p. let e = h p in absurd (cc)

pub returns-clause-other : goal.returns-clause-other
returns-clause-other c =
    let text = c.args.text.now in
    not_none c.ok.result (IsNumber text) (λ n.
    let parsed = parse_gives own 64 text c.parse.result c.parse.ensures.value.0 n.digits_only n.some n.below in rw parsed at c.ok.ensures.variant)
