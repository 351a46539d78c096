-- Which calls of a source and a sink failed in a run.
use Rattle.std.specs.Prelude.{ℕ, Result, Err, Ok}
use Rattle.fastlanes_column_streams.specs.declared.error.StreamError.{StreamError}
use Rattle.fastlanes_column_streams.specs.declared.error.StreamError.TheVariants.{ReadFailed, WriteFailed}

-- how many reads failed where a run stopped with this error: it stops at the first failure
abbrev pub reads_failed_by : StreamError → ℕ
reads_failed_by ReadFailed = 1
reads_failed_by _ = 0

-- how many writes and flushes failed
abbrev pub writes_failed_by : StreamError → ℕ
writes_failed_by WriteFailed = 1
writes_failed_by _ = 0

-- how many calls failed, by the answer: none where the run succeeded, and else as many as its error tells
abbrev pub failed_by : {T E : Type 0} → (E → ℕ) → Result T E → ℕ
failed_by told (Ok _) = 0
failed_by told (Err e) = told e

-- how many reads failed, by the answer
abbrev pub failed_reads : {T : Type 0} → Result T StreamError → ℕ
failed_reads result = failed_by reads_failed_by result

-- how many writes and flushes failed, by the answer
abbrev pub failed_writes : {T : Type 0} → Result T StreamError → ℕ
failed_writes result = failed_by writes_failed_by result
