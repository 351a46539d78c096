use Rattle.std.proofs.Common.{◌≡◌, ℕ, List, length, ap, arith, rules, ◌∙◌}
use Rattle.std.proofs.lemmas.List.{map-id}
use Rattle.std.specs.List.{slice_get, slice_index}
use Rattle.callers.proofs.runs.runs_there_and_back.Goals as goal

pub decode_unchecked-requires : goal.decode_unchecked-requires
decode_unchecked-requires g c =
    let encoded = c.encode_unchecked-count in
    let long : length encoded.new.rle_vals ≡ 1024 = search rules in
    (search rules, (search rules, λ k d inside. omega (arith, encoded.ensures.indexes_below k d inside, encoded.ensures.at_most_all, long)))

pub returns : goal.returns
returns g c = λ i in_block.
    let encoded = c.encode_unchecked-count in
    c.decode_unchecked.ensures i in_block
    ∙ ap (λ (indexes : List ℕ). slice_get encoded.new.rle_vals (slice_index indexes i)) (map-id encoded.new.rle_idxs)
    ∙ encoded.ensures.restores c.requires i in_block
