-- A place of a block is one row of one lane.
use Rattle.std.proofs.Common.{◌≡◌, ℕ, ◌<◌, arith, inr, refl}
use Rattle.std.proofs.lemmas.Grind.{common_steps}
use Rattle.fastlanes_base.specs.Element.{IsLayout}
use Rattle.fastlanes_base.specs.Order.{place, lane_at, row_at}

pub layout_64 : IsLayout 64 16
layout_64 = record { size = inr (inr (inr refl)); area = refl }

pub some_lanes : (t lanes : ℕ) → IsLayout t lanes → 0 < lanes
some_lanes t lanes layout = grind (arith, layout.area)

pub place-lt : (t lanes row lane : ℕ) → IsLayout t lanes → row < t → lane < lanes → place row lane < 1024
place-lt t lanes row lane layout in_rows in_lanes = grind (arith, common_steps, layout.size, layout.area)

pub lane_at-place : (t lanes row lane : ℕ) → IsLayout t lanes → row < t → lane < lanes → lane_at lanes (place row lane) ≡ lane
lane_at-place t lanes row lane layout in_rows in_lanes = grind (arith, common_steps, layout.size, layout.area)

pub row_at-place : (t lanes row lane : ℕ) → IsLayout t lanes → row < t → lane < lanes → row_at lanes (place row lane) ≡ row
row_at-place t lanes row lane layout in_rows in_lanes = grind (arith, common_steps, layout.size, layout.area)

pub place-at : (t lanes i : ℕ) → IsLayout t lanes → i < 1024 → place (row_at lanes i) (lane_at lanes i) ≡ i
place-at t lanes i layout in_block = grind (arith, common_steps, layout.size, layout.area)

pub row_at-lt : (t lanes i : ℕ) → IsLayout t lanes → i < 1024 → row_at lanes i < t
row_at-lt t lanes i layout in_block = grind (arith, common_steps, layout.size, layout.area)
