use Rattle.flcolumn_words.proofs.command.words.writing_commands.Goals as goal

pub returns : goal.returns
returns c =
    let encodes = c.with_subcommand-encodes.ensures _ _ c.program.ensures c.encode_command.ensures in
    c.with_subcommand.ensures _ _ encodes c.decode_command.ensures
