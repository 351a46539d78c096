use Rattle.std.proofs.lemmas.Result.{IfOk-weaker}
use Rattle.flcolumn_words.proofs.command.words.commands.Goals as goal

pub returns : goal.returns
returns c =
    let informs = c.with_subcommand-informs.ensures _ _ c.writing_commands.ensures c.info_command.ensures in
    IfOk-weaker c.with_subcommand.result _ _ (λ command made. made.app) (c.with_subcommand.ensures _ _ informs c.get_command.ensures)
