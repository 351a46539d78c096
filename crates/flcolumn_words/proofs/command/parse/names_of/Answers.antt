use Rattle.std.proofs.Common.{◌∙◌, codes}
use Rattle.clap.specs.Words.{found_of}
use Rattle.clap.proofs.WalkLemmas.{first_value-rows}
use Rattle.flcolumn_words.proofs.command.parse.names_of.Goals as goal

pub returns : goal.returns
returns c =
    let found = found_of c.args.matches.now in
    record {
      input = c.get_str.ensures ∙ first_value-rows found (codes "input");
      output = c.get_str-2.ensures ∙ first_value-rows found (codes "output");
    }
