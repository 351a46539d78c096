use Rattle.std.proofs.Common.{◌∙◌, ap, not, sym}
use Rattle.fastlanes_pages.proofs.FrameMasks.{greater_said, less_said, of_greater, of_less}
use Rattle.fastlanes_pages.proofs.masks.answer_beside.Goals as goal

pub returns-in-Equal-clause-greater : goal.returns-in-Equal-clause-greater
returns-in-Equal-clause-greater c = λ is value x far. greater_said c.args.comparison value x far ∙ ap of_greater c.in-Equal.is

pub returns-in-Equal-clause-less : goal.returns-in-Equal-clause-less
returns-in-Equal-clause-less c = λ is value x far. less_said c.args.comparison value x far ∙ ap of_less c.in-Equal.is

pub returns-in-NotEqual-clause-greater : goal.returns-in-NotEqual-clause-greater
returns-in-NotEqual-clause-greater c = λ is value x far. greater_said c.args.comparison value x far ∙ ap of_greater c.in-NotEqual.is

pub returns-in-NotEqual-clause-less : goal.returns-in-NotEqual-clause-less
returns-in-NotEqual-clause-less c = λ is value x far. less_said c.args.comparison value x far ∙ ap of_less c.in-NotEqual.is

pub returns-in-Less-clause-greater : goal.returns-in-Less-clause-greater
returns-in-Less-clause-greater c = λ is value x far. greater_said c.args.comparison value x far ∙ ap of_greater c.in-Less.is ∙ ap not (sym is)

pub returns-in-Less-clause-less : goal.returns-in-Less-clause-less
returns-in-Less-clause-less c = λ is value x far. less_said c.args.comparison value x far ∙ ap of_less c.in-Less.is ∙ ap not (sym is)

pub returns-in-AtMost-clause-greater : goal.returns-in-AtMost-clause-greater
returns-in-AtMost-clause-greater c = λ is value x far. greater_said c.args.comparison value x far ∙ ap of_greater c.in-AtMost.is ∙ ap not (sym is)

pub returns-in-AtMost-clause-less : goal.returns-in-AtMost-clause-less
returns-in-AtMost-clause-less c = λ is value x far. less_said c.args.comparison value x far ∙ ap of_less c.in-AtMost.is ∙ ap not (sym is)

pub returns-in-Greater-clause-greater : goal.returns-in-Greater-clause-greater
returns-in-Greater-clause-greater c = λ is value x far. greater_said c.args.comparison value x far ∙ ap of_greater c.in-Greater.is ∙ sym is

pub returns-in-Greater-clause-less : goal.returns-in-Greater-clause-less
returns-in-Greater-clause-less c = λ is value x far. less_said c.args.comparison value x far ∙ ap of_less c.in-Greater.is ∙ sym is

pub returns-in-AtLeast-clause-greater : goal.returns-in-AtLeast-clause-greater
returns-in-AtLeast-clause-greater c = λ is value x far. greater_said c.args.comparison value x far ∙ ap of_greater c.in-AtLeast.is ∙ sym is

pub returns-in-AtLeast-clause-less : goal.returns-in-AtLeast-clause-less
returns-in-AtLeast-clause-less c = λ is value x far. less_said c.args.comparison value x far ∙ ap of_less c.in-AtLeast.is ∙ sym is
