use Rattle.flcolumn_words.proofs.command.words.encode_command.Goals as goal

pub returns : goal.returns
returns c =
    let element = c.with_arg-encode.ensures _ _ c.new_command.ensures c.required_arg.ensures in
    let for_only = c.with_arg-encode-2.ensures _ _ element c.in_ok-for_only.ensures in
    c.with_files.ensures _ (c.with_arg-encode-3.ensures _ _ for_only c.flag_arg.ensures)
