use Rattle.std.proofs.Common.{◌≡◌, ◌<◌, ◌∙◌, ◌%◌, ◌^◌, ℕ, arith, ap, below_more, bit_or, get_or, length, map, refl, subst, sym}
use Rattle.std.proofs.lemmas.List.{get_or-map, length-map, take_all}
use Rattle.std.proofs.lemmas.List.Elements.{All-from_get_or}
use Rattle.std.specs.List.{slice_index}
use Rattle.fastlanes.specs.Frame.{framed, word_difference}
use Rattle.fastlanes_column.specs.LeastWidth.{IsAsWide}
use Rattle.fastlanes_column.proofs.Distances.{greatest_begins, least_begins, length-low_distances_of, low_distance_of, low_distances}
use Rattle.fastlanes_column.proofs.WidthBounds.{as_wide_none, as_wide_word, greatest_more, greatest_of_all, least_more, least_of_all}
use Rattle.fastlanes_column.proofs.minimum.distances_from.Goals as goal

pub loop-word-init : goal.loop-word-init
unfolding framed
loop-word-init g c =
    let number = g.E.FastLanes.number in
    let words = c.args.words.now in
    let lows = low_distances c.args.base (map number words) in
    let some : 0 < length lows = rw (length-low_distances_of number c.args.base words) c.requires in
    let first : slice_index lows 0 ≡ c.low_half-least.result =
    low_distance_of number c.args.base words 0 c.index-words-0.result c.requires
    ∙ ap (λ (n : ℕ). word_difference 64 n c.args.base % 2 ^ 32) (ap number (sym c.index-words-0.is) ∙ sym c.number_of.ensures)
    ∙ sym c.low_half-least.ensures
    in
    record {
      joined = as_wide_none 0 refl;
      least = least_begins 32 c.low_half-least.result lows some first;
      greatest = greatest_begins c.low_half-least.result lows some first;
      below = λ k before. absurd (omega arith);
    }

pub loop-word-preserved : goal.loop-word-preserved
loop-word-preserved g c =
    let number = g.E.FastLanes.number in
    let words = c.args.words.now in
    let base = c.args.base in
    let i = c.loop-word.word-index in
    let word = c.word-item.result in
    let n = c.number_of-in-loop-word in
    let low = c.low_half-low.result in
    let lows = low_distances base (map number words) in
    let so_far = c.loop-word.invariant in
    let inside = c.loop-word-test.true in
    let is : number (get_or words i word) ≡ n.result = ap number (sym c.word-item.is) ∙ sym n.ensures in
    let here : slice_index lows i ≡ low =
    low_distance_of number base words i word inside ∙ ap (λ (m : ℕ). word_difference 64 m base % 2 ^ 32) is ∙ sym c.low_half-low.ensures
    in
    let in_lows : i < length lows = rw (length-low_distances_of number base words) inside in
    let below : low < 2 ^ 32 = c.low_half-low.type_inv in
    record {
      joined = as_wide_word number 64 base words i word c.loop-word.joined _ inside c.word-item.is
          (ap (λ (m : ℕ). bit_or c.loop-word.joined (word_difference 64 m base)) n.ensures) so_far.joined;
      least = least_more 32 i c.loop-word.least low _ lows so_far.least in_lows here below c.min-least.ensures;
      greatest = greatest_more i c.loop-word.greatest low _ lows so_far.greatest in_lows here c.max-greatest.ensures;
      below = below_more _ i so_far.below (subst (λ (m : ℕ). m < 2 ^ 64) (sym (get_or-map number words i word 0 inside ∙ is)) n.type_inv);
    }

pub returns : goal.returns
returns g c =
    let number = g.E.FastLanes.number in
    let words = c.args.words.now in
    let base = c.args.base in
    let i = c.loop-word.word-index in
    let so_far = c.loop-word.invariant in
    record {
      joined = subst (λ ws. IsAsWide c.loop-word.joined (framed 64 base (map number ws))) (take_all i words c.loop-word-test.false) so_far.joined;
      least = least_of_all 32 i c.loop-word.least (low_distances base (map number words)) so_far.least
          (rw (length-low_distances_of number base words) c.loop-word-test.false);
      greatest = greatest_of_all i c.loop-word.greatest (low_distances base (map number words)) so_far.greatest
          (rw (length-low_distances_of number base words) c.loop-word-test.false);
      below = All-from_get_or (λ x. x < 2 ^ 64) (map number words) 0 (λ k here.
          let in_words : k < length words = rw length-map at here in
          so_far.below k (omega (arith, c.loop-word-test.false)));
    }
