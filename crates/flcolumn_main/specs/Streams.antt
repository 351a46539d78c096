-- The streams of the program.
use Rattle.std.specs.Prelude.{ℕ, Bool, false, true}
use Rattle.flcolumn_main.specs.declared.streams.input.Input.{Input}
use Rattle.flcolumn_main.specs.declared.streams.input.Origin.{Origin}
use Rattle.flcolumn_main.specs.declared.streams.input.Origin.TheVariants.{Standard as StandardInput, Named as NamedInput}
use Rattle.flcolumn_main.specs.declared.streams.output.Goal.{Goal}
use Rattle.flcolumn_main.specs.declared.streams.output.Goal.TheVariants.{Standard as StandardOutput, Named as NamedOutput}
use Rattle.flcolumn_main.specs.declared.streams.output.Output.{Output}

-- where the bytes come from
abbrev pub input_origin : Input → Origin
input_origin input = input.origin

-- how many reads of it failed
abbrev pub input_failures : Input → ℕ
input_failures input = input.failures

-- where the bytes go
abbrev pub output_goal : Output → Goal
output_goal output = output.goal

-- how many writes and flushes of it failed
abbrev pub output_failures : Output → ℕ
output_failures output = output.failures

-- whether bytes come from a file
abbrev pub is_named_origin : Origin → Bool
is_named_origin (StandardInput _) = false
is_named_origin (NamedInput _) = true

-- whether a file is read, in place of standard input
abbrev pub is_input_file : Input → Bool
is_input_file input = is_named_origin (input_origin input)

-- whether bytes go to a file
abbrev pub is_named_goal : Goal → Bool
is_named_goal (StandardOutput _) = false
is_named_goal (NamedOutput _) = true

-- whether a file is written, in place of standard output
abbrev pub is_output_file : Output → Bool
is_output_file output = is_named_goal (output_goal output)
