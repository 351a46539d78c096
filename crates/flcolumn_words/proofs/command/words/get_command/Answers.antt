use Rattle.flcolumn_words.proofs.command.words.get_command.Goals as goal

pub returns : goal.returns
returns c = c.with_files.ensures _ (c.with_arg-get.ensures _ _ c.new_command.ensures c.numbers_arg.ensures)
