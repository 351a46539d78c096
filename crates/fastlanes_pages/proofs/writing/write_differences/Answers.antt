use Rattle.std.proofs.Common.{◌≡◌, ℕ, ◌*◌, ◌^◌, ◌<◌, List, arith, length, map, rules, subst, sym}
use Rattle.std.specs.Prelude.{All}
use Rattle.fastlanes.specs.Delta.{deltas}
use Rattle.fastlanes.specs.Transposition.{transposed}
use Rattle.fastlanes_bytes.specs.Bytes.{HasWords}
use Rattle.fastlanes_pages.proofs.WordCounts.{lane_bytes, word_bytes, words_most}
use Rattle.fastlanes_pages.proofs.writing.write_differences.Goals as goal

pub put_words-requires : goal.put_words-requires
put_words-requires g c =
    let each : length c.put_bases.new.bases ≡ g.E.FastLanes.LANES = search rules in
    rw (each, c.requires.before) (lane_bytes _ _ g.met.E.FastLanes.layout_law)

pub overflow_mul-words : goal.overflow_mul-words
overflow_mul-words g c = rw c.LANES.ensures (omega (arith, words_most _ _ g.met.E.FastLanes.layout_law c.args.width c.requires.width))

pub put_words-requires-2 : goal.put_words-requires-2
put_words-requires-2 g c =
    let long : length c.delta_write.new.output ≡ g.E.FastLanes.LANES * c.args.width = search rules in
    rw (long, c.requires.bytes) (word_bytes _ _ g.met.E.FastLanes.layout_law c.args.width)

pub returns : goal.returns
returns g c =
    let t = g.E.FastLanes.T in
    let number = g.E.FastLanes.number in
    let block = map number c.args.block.now in
    let near = subst (λ (b : List ℕ). All (λ x. x < 2 ^ c.args.width) (deltas t g.E.FastLanes.LANES b (transposed block))) (sym c.put_bases.ensures) c.requires.near in
    let each : length c.put_bases.new.bases ≡ g.E.FastLanes.LANES = search rules in
    let long : length c.delta_write.new.output ≡ g.E.FastLanes.LANES * c.args.width = search rules in
    let start = subst (λ (n : ℕ). HasWords t n (map number c.put_bases.new.bases) c.put_words.new.bytes) each c.put_words.ensures in
    record {
      sums = record {
        bases = map number c.put_bases.new.bases;
        words = map number c.delta_write.new.output;
        start = start;
        packed = subst (λ (n : ℕ). HasWords t n (map number c.delta_write.new.output) c.put_words-2.new.bytes) long c.put_words-2.ensures;
        sums = sym (c.delta_write.ensures.comes_back.1 near);
      };
      bases = subst (λ (b : List ℕ). HasWords t g.E.FastLanes.LANES b c.put_words.new.bytes) c.put_bases.ensures start;
    }
