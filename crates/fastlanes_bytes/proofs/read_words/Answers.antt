use Rattle.std.proofs.Common.{◌/◌, ◌^◌, ◌<◌, rules}
use Rattle.fastlanes_bytes.specs.Bytes.{word_bytes}
use Rattle.fastlanes_bytes.proofs.Pieces.{All-put, pieces-put, take-piece}
use Rattle.fastlanes_bytes.proofs.read_words.Goals as goal

pub loop-place-preserved : goal.loop-place-preserved
loop-place-preserved g c =
    let l = c.loop-place in
    let word_len = c.T-word_len.result / 8 in
    let number = g.E.FastLanes.number in
    let next = pieces-put (word_bytes g.E.FastLanes.T) number l.words l.place c.of_bytes.result (search rules) in
    record {
      whole = search rules;
      count = search rules;
      below = All-put (λ x. x < 2 ^ g.E.FastLanes.T) number l.words l.place c.of_bytes.result (search rules) l.invariant.below c.of_bytes.ensures.below;
      bytes = rw (next, l.invariant.bytes, c.of_bytes.ensures.bytes) (take-piece c.args.bytes.now l.end word_len);
    }
