-- Why the program ends before its work is done.
use Rattle.std.specs.Prelude.{◌≡◌, ℕ, ◌+◌, ◌-◌, ◌^◌, ◌<◌, Result}
use Rattle.fastlanes_column_streams.specs.Failures as stream
use Rattle.fastlanes_column_streams.specs.declared.error.StreamError.TheVariants.{ReadFailed, Refused as Flawed, ShortValue, TooMany, WriteFailed}
use Rattle.flcolumn_words.specs.declared.command.parse.WordsError.TheVariants.{NoMemory as NoMemoryForWords}
use Rattle.flcolumn.specs.declared.failure.Failure.{Failure}
use Rattle.flcolumn.specs.declared.failure.Failure.TheVariants.{NoInput, NoMemory, NoOutput, NoSuchValue, SameFile, Stream, Words}
use Rattle.flcolumn.specs.declared.streams.Streams.{Streams}

-- the status that the program ends with
abbrev pub status_of : Failure → ℕ
status_of (Words NoMemoryForWords) = 6
status_of (Words _) = 1
status_of (Stream (Flawed _)) = 2
status_of (Stream (ShortValue _)) = 3
status_of (Stream ReadFailed) = 4
status_of (Stream WriteFailed) = 5
status_of (Stream TooMany) = 8
status_of NoMemory = 6
status_of (NoSuchValue _ _) = 7
status_of (NoInput _ _) = 4
status_of (NoOutput _ _) = 5
status_of (SameFile _) = 9

-- how many reads failed where the program ends so
abbrev pub reads_failed_by : Failure → ℕ
reads_failed_by (Stream e) = stream.reads_failed_by e
reads_failed_by _ = 0

-- how many writes and flushes failed
abbrev pub writes_failed_by : Failure → ℕ
writes_failed_by (Stream e) = stream.writes_failed_by e
writes_failed_by _ = 0

-- how many reads failed, by the answer
abbrev pub failed_reads : {T : Type 0} → Result T Failure → ℕ
failed_reads result = stream.failed_by reads_failed_by result

-- how many writes and flushes failed, by the answer
abbrev pub failed_writes : {T : Type 0} → Result T Failure → ℕ
failed_writes result = stream.failed_by writes_failed_by result

-- the source and the sink may each count a failed call more
abbrev pub MayFail : {I O : Type 0} → (I → ℕ) → (O → ℕ) → Streams I O → Type 0
MayFail reads writes streams = (reads streams.input < 2 ^ 32 - 1) × (writes streams.output < 2 ^ 32 - 1)

-- the source counted the reads that failed, and the sink the writes and flushes, as many as the answer tells
abbrev pub CountFailures : {I O T : Type 0} → (I → ℕ) → (O → ℕ) → Result T Failure → Streams I O → Streams I O → Type 0
CountFailures reads writes result old new =
    (reads new.input ≡ reads old.input + failed_reads result) × (writes new.output ≡ writes old.output + failed_writes result)
