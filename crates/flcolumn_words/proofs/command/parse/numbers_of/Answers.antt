use Rattle.std.proofs.Common.{List, ℕ, [], inl, subst, sym}
use Rattle.std.specs.Borrow.{Bor}
use Rattle.flcolumn_words.specs.Requests.{Write}
use Rattle.flcolumn_words.proofs.Numbers.{shows_first, unwritten, write_more}
use Rattle.flcolumn_words.proofs.command.parse.numbers_of.Goals as goal

abbrev none : Bor (List ℕ)
none = record { ref_ptr = (0, 0); now = [] }

pub returns-in_default-clause-refused : goal.returns-in_default-clause-refused
returns-in_default-clause-refused c =
    inl (unwritten c.args.texts.now c.loop-text.text-index none c.loop-text-test.true c.in_default.ensures.other)

pub returns-in_default-clause-shown : goal.returns-in_default-clause-shown
returns-in_default-clause-shown c =
    shows_first c.args.texts.now c.loop-text.text-index none c.loop-text.numbers.items _ c.loop-text-test.true c.loop-text.invariant
    c.in_default.ensures.other c.no_number.ensures

pub loop-text-preserved : goal.loop-text-preserved
loop-text-preserved c =
    let is = c.in-Some.ensures.number in
    let more =
    write_more c.args.texts.now c.loop-text.text-index none c.loop-text.numbers.items c.in-Some.number c.loop-text-test.true c.loop-text.invariant is.0 is.1 in
    let pushed = rw c.if-is_err.ensures.negation at c.push.ensures.items in
    subst (Write _) (sym pushed) more
