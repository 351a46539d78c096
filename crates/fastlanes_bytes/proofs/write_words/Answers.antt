use Rattle.std.proofs.Common.{◌+◌, ◌-◌, ◌/◌, ◌^◌, ◌<◌, ◌∙◌, ap, arith, drop, rules, sym}
use Rattle.std.proofs.lemmas.List.{drop-drop}
use Rattle.std.proofs.lemmas.Slice.{drop-put_mid}
use Rattle.fastlanes_bytes.specs.Bytes.{word_bytes}
use Rattle.fastlanes_bytes.proofs.Pieces.{All-next, pieces-put_mid}
use Rattle.fastlanes_bytes.proofs.write_words.Goals as goal

pub loop-word-preserved : goal.loop-word-preserved
loop-word-preserved g c = record {
  count = search rules;
  below =
      let l = c.loop-word in
      All-next (λ x. x < 2 ^ g.E.FastLanes.T) g.E.FastLanes.number c.args.words.now l.word-index c.word-item.result c.loop-word-test.true c.word-item.is
      l.invariant.below c.put_bytes.ensures.below;
  rest =
      let l = c.loop-word in
      let n = c.T-word_len.result / 8 in
      drop-put_mid l.end (l.end + n - l.end) l.bytes c.put_bytes.new.bytes (l.end + n) (omega arith) (search rules) (search rules)
      ∙ sym (drop-drop n l.end l.bytes) ∙ ap (drop n) l.invariant.rest ∙ drop-drop n l.end c.args.bytes.now;
  bytes =
      let l = c.loop-word in
      pieces-put_mid (word_bytes g.E.FastLanes.T) g.E.FastLanes.number c.args.words.now l.word-index (c.T-word_len.result / 8) c.word-item.result
      l.bytes c.put_bytes.new.bytes l.end _ c.loop-word-test.true c.word-item.is (rw (l.auto.bytes, c.T-word_len.ensures) c.requires) (search rules)
      l.invariant.count l.invariant.bytes c.put_bytes.ensures.bytes;
}
