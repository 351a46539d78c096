use Rattle.std.proofs.Common.{◌≡◌, ◌∙◌, Some, sym, get_or, add-zero, arith, slice_get}
use Rattle.std.proofs.lemmas.Option.{slice_get-get_or}
use Rattle.fastlanes_runs.specs.RunLengths.{is_start}
use Rattle.fastlanes_runs.proofs.RunEncoding.{encoded_same, encoded_start, is_start-encoded, same_entry}
use Rattle.fastlanes_runs.proofs.rle.encode_places.Goals as goal
use Rattle.fastlanes_runs.proofs.rle.encode_places.Goals.{then-starts, else-starts}

pub loop-i-preserved : goal.loop-i-preserved
loop-i-preserved g c = record {
  below = grind arith;
  encoded = λ before first.
      let so_far = c.loop-i.invariant.encoded before first in
      let value = get_or c.args.input.now c.loop-i.i c.index-input-i.result in
      let here : slice_get c.args.input.now c.loop-i.i ≡ Some value = slice_get-get_or c.args.input.now c.loop-i.i c.index-input-i.result (omega arith) in
      let decided : is_start g.V.PartialEq.eq c.args.input.now c.loop-i.i ≡ c.ne-starts.result = is_start-encoded so_far ∙ rw here (sym c.ne-starts.ensures) in
      elim c.if-starts.branch [
        | then-starts w ↦ rw (w.start-is, w.if-starts.true) (encoded_start so_far value (omega arith) (omega arith) here (decided ∙ w.if-starts.true))
        | else-starts w ↦ rw (w.start-is, w.if-starts.false, add-zero, same_entry so_far) (encoded_same so_far (omega arith) (decided ∙ w.if-starts.false))
      ];
}
