use Rattle.std.proofs.lemmas.Result.{IfOk-weaker}
use Rattle.flcolumn_words.proofs.Aliases.{with_alias}
use Rattle.flcolumn_words.proofs.command.words.for_only_arg.Goals as goal

pub returns : goal.returns
returns c = IfOk-weaker c.alias.result _ _ (λ arg adds. with_alias _ _ arg _ _ c.flag_arg.ensures adds) c.alias.ensures
