-- What a source gives, packed.
use Rattle.std.proofs.Common.{ℕ, ◌%◌, ◌^◌, List, ap, sym, zero-add, ◌∙◌}
use Rattle.std.proofs.lemmas.List.FromFn.{get_or-map-range_with_len}
use Rattle.fastlanes_base.specs.Digits.{IsPacked}
use Rattle.fastlanes_base.specs.Element.{IsLayout}
use Rattle.fastlanes_base.specs.Order.{place}
use Rattle.fastlanes_base.proofs.Places.{place-lt}
use Rattle.fastlanes_rows.specs.Block.{PacksValues}
use Rattle.fastlanes_rows.proofs.Numbers.{same_digits}
use Rattle.fastlanes_blocks.specs.Walks.{block_of}

-- the values of all lanes and rows, packed, are the block of the values at all places, packed
pub packed_block : (t lanes w : ℕ) (value : ℕ → ℕ) (p : List ℕ) → IsLayout t lanes
    → PacksValues t lanes w (λ lane row. value (place row lane)) p → IsPacked t lanes w (block_of value) p
packed_block t lanes w value p layout packs = record {
  long = packs.long;
  each = λ lane in_lanes. packs.each lane in_lanes ∙ same_digits w _ _ t (λ row in_rows.
      let spot = place row lane in
      ap (λ (x : ℕ). x % 2 ^ w) (sym (get_or-map-range_with_len value 0 1024 spot spot 0 (place-lt t lanes row lane layout in_rows in_lanes) (zero-add spot))));
}
