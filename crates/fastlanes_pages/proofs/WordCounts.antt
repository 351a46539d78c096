-- How many lanes there are, and how many words and bytes.
use Rattle.std.proofs.Common.{◌≡◌, ℕ, ◌*◌, ◌/◌, ◌≤◌, arith}
use Rattle.std.proofs.Math.Nat.{mul-le-mul_left, mul_comm}
use Rattle.fastlanes_base.specs.Element.{IsLayout}

module _ (t lanes : ℕ) (layout : IsLayout t lanes) where
  pub lanes_most : lanes ≤ 128
  lanes_most = grind (arith, layout.size, layout.area)

  pub lane_bytes : 128 ≡ lanes * (t / 8)
  lane_bytes = grind (arith, layout.size, layout.area)

  -- the words of a block, and their bytes
  pub words_most : (w : ℕ) → w ≤ t → lanes * w ≤ 1024
  words_most w narrow = omega (arith, mul-le-mul_left lanes narrow, mul_comm t lanes, layout.area)

  pub word_bytes : (w : ℕ) → 128 * w ≡ lanes * w * (t / 8)
  word_bytes w = grind (arith, lane_bytes)
