use Rattle.std.proofs.Common.{◌∙◌, arith}
use Rattle.fastlanes_format.proofs.NumbersKept.{last_behind, number_before, number_behind}
use Rattle.fastlanes_format.proofs.writing.seal_page.Goals as goal

pub returns-clause-len : goal.returns-clause-len
returns-clause-len c =
    let stays = number_behind c.put_four-3.new.bytes c.put_four-2.new.bytes 4 c.put_four-3.ensures.behind 4 8 (omega arith) in
    let stood = number_before c.put_four-2.new.bytes c.put_four.new.bytes 12 c.put_four-2.ensures.before 4 8 (omega arith) in
    omega (arith, stays ∙ stood ∙ c.put_four.ensures.number)

pub returns-clause-values : goal.returns-clause-values
returns-clause-values c =
    number_behind c.put_four-3.new.bytes c.put_four-2.new.bytes 4 c.put_four-3.ensures.behind 4 4 (omega arith)
    ∙ number_before c.put_four-2.new.bytes c.put_four.new.bytes 12 c.put_four-2.ensures.before 4 4 (omega arith)
    ∙ number_before c.put_four.new.bytes c.args.page.now 8 c.put_four.ensures.before 4 4 (omega arith)

pub returns-clause-behind : goal.returns-clause-behind
returns-clause-behind c =
    last_behind c.put_four-3.new.bytes c.put_four-2.new.bytes 4 c.put_four-3.ensures.behind 16 (omega arith)
    ∙ c.put_four-2.ensures.behind
    ∙ last_behind c.put_four.new.bytes c.args.page.now 12 c.put_four.ensures.behind 16 (omega arith)
