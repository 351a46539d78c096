-- Blocks and columns that were opened.
use Rattle.std.specs.Prelude.{◌≡◌, ℕ, ◌+◌, ◌*◌, ◌^◌, ◌<◌, ◌≤◌, Bool, List, if◌then◌else◌, length}
use Rattle.fastlanes_format.specs.Format.{AreColumn, count_of}
use Rattle.fastlanes_format.specs.Starts.{HasStarts}
use Rattle.fastlanes_pages.specs.declared.opened.Opened.{Opened}

-- a block has the bytes that its head says, and so many of its 1024 values are values of a column
pub record IsBlock (t : ℕ) (differences : Bool) (width reference : ℕ) (bytes : List ℕ) (len : ℕ) : Type 0 where
  pub fits : width ≤ t
  pub below : reference < 2 ^ t
  pub whole : length bytes ≡ 128 * ((if differences then 1 else 0) + width)
  pub most : len ≤ 1024

-- the bytes are a column of as many values as is noted, whose pages begin where it is
pub record IsOpened (t : ℕ) (opened : Opened) : Type 0 where
  pub is : AreColumn t opened.bytes.now
  pub count : opened.len ≡ count_of opened.bytes.now
  pub noted : HasStarts opened.bytes.now opened.stride opened.starts
