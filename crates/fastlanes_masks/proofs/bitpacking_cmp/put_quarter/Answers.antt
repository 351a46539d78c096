use Rattle.std.proofs.Common.{◌≡◌, ◌+◌, ◌-◌, ◌*◌, ◌++◌, arith, ap, drop, length, slice_index, take, ◌∙◌}
use Rattle.std.proofs.lemmas.List.{get_or_append_left, get_or-append_right, length-drop, length-take, length-take-le}
use Rattle.std.proofs.lemmas.Simd.{put_chunk_whole}
use Rattle.std.specs.Simd.Lanes.{put_chunk}
use Rattle.fastlanes_masks.proofs.bitpacking_cmp.put_quarter.Goals as goal

pub returns-clause-here : goal.returns-clause-here
returns-clause-here c = λ k within.
    let at = 4 * c.args.quarter in
    let output = c.args.output.now in
    let part = take (at + 4 - at) (drop at output) in
    let rest = drop (at + 4 - at) (drop at output) in
    let before : length (take at output) ≡ at = length-take-le at output (omega (arith, c.requires, c.told-output)) in
    let long : length part ≡ length c.args.words = omega (arith, c.requires, c.told-output, c.fits-words.0, length-take (at + 4 - at) (drop at output), length-drop at output) in
    let from : at + k - at ≡ k = omega arith in
    get_or-append_right (take at output) (put_chunk 0 part c.args.words ++ rest) at (at + k) 0 before (omega arith)
    ∙ ap (slice_index (put_chunk 0 part c.args.words ++ rest)) from ∙ ap (λ ws. slice_index (ws ++ rest) k) (put_chunk_whole part c.args.words long)
    ∙ get_or_append_left c.args.words rest 0 k (omega (arith, c.fits-words.0))
