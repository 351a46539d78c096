-- A run between slices.
use Rattle.std.proofs.Common.{◌≡◌, ◌≢◌, ℕ, ◌+◌, List, [], ◌++◌, Result, Ok, Err, length, take, drop, refl, ap, sym, subst, ◌∙◌, arith}
use Rattle.std.proofs.Math.Seq.{take-length}
use Rattle.std.proofs.lemmas.List.{take_at}
use Rattle.flblock.specs.declared.command.Command.{Command}
use Rattle.flblock.specs.Command.{IsOutput, input_len}
use Rattle.flblock.specs.declared.error.BlockError.{BlockError}
use Rattle.flblock.specs.declared.error.BlockError.TheVariants.{Usage, Width, ShortInput, ReadFailed, WriteFailed}
use Rattle.flblock.specs.Run.{Completes, ReadsBlock, failed_writes}
use Rattle.fastlanes_streams.specs.Stream.{Gives, Source, Sink}

-- what a run left of a slice that it wrote to from the beginning on, from a source of just the command's block
pub run_into : (c : Command) (block bytes after : List ℕ) (from from' : Source) (to to' : Sink) → Completes c from from' to to'
    → from.left ≡ block → length block ≡ input_len c → to.taken ≡ [] → to.left ≡ bytes → to'.taken ++ to'.left ≡ after
    → (output : List ℕ) × IsOutput c block output × (after ≡ output ++ drop (length output) bytes)
run_into c block bytes after from from' to to' done source long none whole is =
    let reads = done.reads in
    let part : length reads.block ≡ length block = reads.whole ∙ sym long in
    let same : reads.block ≡ block =
    sym (take_at reads.block from'.left (length block) part) ∙ ap (take (length block)) (sym reads.gives.left ∙ source) ∙ take-length block
    in
    let taken : to'.taken ≡ done.output = done.delivers.taken ∙ ap (λ zs. zs ++ done.output) none in
    let left : to'.left ≡ drop (length done.output) bytes = done.delivers.left ∙ ap (drop (length done.output)) whole in
    (done.output, subst (λ b. IsOutput c b done.output) same reads.is_output, sym is ∙ ap (λ zs. zs ++ to'.left) taken ∙ ap (λ zs. done.output ++ zs) left)

-- a block that the source gave, and what the command writes after it
pub block_read : (c : Command) (from from' : Source) (block output : List ℕ) → Gives from block from' → length block ≡ input_len c
    → IsOutput c block output → ReadsBlock c from from' output
block_read c from from' block output given long written =
    record { block = block; gives = given; whole = long; is_output = written }

-- an answer of another kind tells of no failed write
pub no_failed_write : {T : Type 0} (r : Result T BlockError) (failures : ℕ) → r ≢ Err WriteFailed → failures ≡ failures + failed_writes r
no_failed_write (Ok x) failures other = omega arith
no_failed_write (Err Usage) failures other = omega arith
no_failed_write (Err Width) failures other = omega arith
no_failed_write (Err ShortInput) failures other = omega arith
no_failed_write (Err ReadFailed) failures other = omega arith
no_failed_write (Err WriteFailed) failures other = absurd (other refl)
