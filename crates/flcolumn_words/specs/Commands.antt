-- The words that the program takes.
use Rattle.std.specs.Prelude.{◌≡◌, [], ◌∷◌, Some, codes, false, true}
use Rattle.clap.specs.Lexer.{usize_max}
use Rattle.clap.specs.Words.{App, Rule, Text, app_of, new_app, new_rule, rule_of, with_rule, with_subcommand}
use Rattle.clap.specs.declared.builder.arg.Arg.{Arg}
use Rattle.clap.specs.declared.builder.action.ArgAction.TheVariants.{Append, SetTrue}
use Rattle.clap.specs.declared.builder.command.Command.{Command}
use Rattle.clap.specs.declared.builder.command.Command.TheViews.{out-Command}

-- an argument of this rule, of one command only
pub record IsArg (r : Rule) (arg : Arg) : Type 0 where
  pub rule : rule_of arg ≡ r
  pub local : arg.global ≡ false

-- a command of this form, whose arguments are of one command only
pub record IsCommand (a : App) (command : Command) : Type 0 where
  pub app : app_of command ≡ a
  pub local : (out-Command command).has_globals ≡ false

-- an argument that has to be given
abbrev pub required_rule : Text → Rule
required_rule name = record (new_rule name) { required = true }

-- a flag, --name
abbrev pub flag_rule : Text → Rule
flag_rule name = record (new_rule name) { long = Some name; action = Some SetTrue }

-- an option of one value, --name FILE
abbrev pub file_rule : Text → Rule
file_rule name = record (new_rule name) { long = Some name; value_names = 1 }

-- the argument TYPE
abbrev pub element_rule : Rule
element_rule = required_rule (codes "TYPE")

-- the flag --for-only, of which --frames-only is another name
abbrev pub for_only_rule : Rule
for_only_rule = record (flag_rule (codes "for-only")) { aliases = codes "frames-only" ∷ [] }

-- the flag --no-checksums
abbrev pub no_checksums_rule : Rule
no_checksums_rule = flag_rule (codes "no-checksums")

-- the argument N, of one value or more
abbrev pub numbers_rule : Rule
numbers_rule = record (required_rule (codes "N")) {
  action = Some Append;
  range = Some (record { start_inclusive = 1; end_inclusive = usize_max });
}

-- the option --input FILE
abbrev pub input_rule : Rule
input_rule = file_rule (codes "input")

-- the option --output FILE
abbrev pub output_rule : Rule
output_rule = file_rule (codes "output")

-- a command that takes [--input FILE] [--output FILE] too
abbrev pub with_files : App → App
with_files app = with_rule (with_rule app input_rule) output_rule

-- encode TYPE [--for-only] [--no-checksums], with files
abbrev pub encode_app : App
encode_app = with_files (with_rule (with_rule (with_rule (new_app (codes "encode")) element_rule) for_only_rule) no_checksums_rule)

-- decode, with files
abbrev pub decode_app : App
decode_app = with_files (new_app (codes "decode"))

-- info, with files
abbrev pub info_app : App
info_app = with_files (new_app (codes "info"))

-- get N.., with files
abbrev pub get_app : App
get_app = with_files (with_rule (new_app (codes "get")) numbers_rule)

-- the program, of which a subcommand has to be asked for
abbrev pub program_app : App
program_app = let start = new_app (codes "flcolumn") in record start { top = record start.top { subcommand_required = true } }

-- one of encode, decode, info and get
abbrev pub all_commands : App
all_commands =
    with_subcommand (with_subcommand (with_subcommand (with_subcommand program_app encode_app.top) decode_app.top) info_app.top) get_app.top
