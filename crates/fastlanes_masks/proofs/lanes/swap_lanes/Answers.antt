use Rattle.std.proofs.Common.{ℕ, ◌*◌, ◌/◌, ◌%◌, ◌^◌, ◌≡◌, length, slice_index, bit_and, bit_xor, ap, sym, ◌∙◌, arith}
use Rattle.std.proofs.lemmas.List.{get_or-map, map-id}
use Rattle.std.proofs.lemmas.Simd.{splat_is_map, zip2_of_maps}
use Rattle.fastlanes_masks.specs.Bits.{swapped}
use Rattle.fastlanes_masks.proofs.lanes.swap_lanes.Goals as goal

pub returns : goal.returns
unfolding swapped
returns c j within =
    let xs = c.args.x in
    let long : length xs ≡ 8 = c.fits-x.0 in
    let same = sym (map-id xs) in
    let splat = λ (y : ℕ). splat_is_map xs 8 y long in
    let down = zip2_of_maps (λ (x k : ℕ). x / 2 ^ k) _ _ xs same (splat c.args.distance) in
    let differing = zip2_of_maps bit_and _ _ xs (zip2_of_maps bit_xor _ _ xs same down) (splat c.args.mask) in
    let up = zip2_of_maps (λ (x k : ℕ). x * 2 ^ k % 2 ^ 64) _ _ xs differing (splat c.args.distance) in
    let exchanged = zip2_of_maps bit_xor _ _ xs (zip2_of_maps bit_xor _ _ xs same differing) up in
    ap (λ ys. slice_index ys j) exchanged ∙ get_or-map (swapped c.args.distance c.args.mask) xs j 0 0 (omega arith)
