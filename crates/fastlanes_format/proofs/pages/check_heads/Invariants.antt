use Rattle.std.proofs.Common.{◌≡◌, ℕ, ◌<◌, None}
use Rattle.fastlanes_format.specs.Errors.{blocks_error}
use Rattle.fastlanes_format.specs.Format.{IsBlockHead, block_place}
use Rattle.fastlanes_format.proofs.pages.check_heads.Given as goal

-- the heads so far are as they have to be, and where the bytes of the next block begin
abbrev pub invariant-loop-block : goal.invariant-loop-block
invariant-loop-block l = record {
  place : l.place ≡ block_place l.page l.block;
  heads : (block : ℕ) → block < l.block → IsBlockHead l.bits l.page block;
  none : blocks_error l.bits l.page l.block ≡ None;
}
