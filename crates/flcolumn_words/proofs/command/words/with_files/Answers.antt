use Rattle.flcolumn_words.proofs.command.words.with_files.Goals as goal

pub returns : goal.returns
returns c app made = c.with_arg-2.ensures _ _ (c.with_arg.ensures app _ made c.file_arg-input.ensures) c.file_arg-output.ensures
