-- What a run of a command does between a source and a sink.
use Rattle.std.specs.Prelude.{◌≡◌, ℕ, List, [], length, Result, Err}
use Rattle.flblock.specs.declared.command.Command.{Command}
use Rattle.flblock.specs.declared.error.BlockError.{BlockError}
use Rattle.flblock.specs.declared.error.BlockError.TheVariants.{ReadFailed, WriteFailed}
use Rattle.flblock.specs.Command.{input_len, IsOutput}
use Rattle.fastlanes_streams.specs.Stream.{Source, Sink, Gives, StopsShort, TakesPart, Delivers}

-- how many reads failed, by the answer: the run stops at the first failure
abbrev pub failed_reads : {T : Type 0} → Result T BlockError → ℕ
failed_reads (Err ReadFailed) = 1
failed_reads _ = 0

-- how many writes and flushes failed
abbrev pub failed_writes : {T : Type 0} → Result T BlockError → ℕ
failed_writes (Err WriteFailed) = 1
failed_writes _ = 0

-- the source came to its end with fewer bytes than n
pub record EndsShort (n : ℕ) (before after : Source) : Type 0 where
  pub stops : StopsShort n before after
  pub ended : after.left ≡ []

-- the source gave just the bytes of a block, and the output is what the command writes after these
pub record ReadsBlock (c : Command) (from from' : Source) (output : List ℕ) : Type 0 where
  pub block : List ℕ
  pub gives : Gives from block from'
  pub whole : length block ≡ input_len c
  pub is_output : IsOutput c block output

-- the source gave just a block, and the sink took just what the command writes after it, and was flushed
pub record Completes (c : Command) (from from' : Source) (to to' : Sink) : Type 0 where
  pub output : List ℕ
  pub reads : ReadsBlock c from from' output
  pub delivers : Delivers to output to'

-- the source gave just a block, and the sink took a beginning of what the command writes after it
pub record BreaksOff (c : Command) (from from' : Source) (to to' : Sink) : Type 0 where
  pub output : List ℕ
  pub reads : ReadsBlock c from from' output
  pub takes : TakesPart to output to'
