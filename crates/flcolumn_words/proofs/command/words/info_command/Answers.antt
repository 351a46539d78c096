use Rattle.flcolumn_words.proofs.command.words.info_command.Goals as goal

pub returns : goal.returns
returns c = c.with_files.ensures _ c.new_command.ensures
