use Rattle.std.proofs.Common.{◌∙◌, arith}
use Rattle.std.proofs.lemmas.List.{get_or_default}
use Rattle.std.proofs.lemmas.Option.{slice_get-get_or}
use Rattle.fastlanes_runs.proofs.RunEncoding.{encoded_first, entry-decoded, index-below}
use Rattle.fastlanes_runs.proofs.RunStarts.{value-last_start}
use Rattle.fastlanes_runs.proofs.rle.AnyRLE.encode_unchecked.Goals as goal

pub loop-group-init : goal.loop-group-init
loop-group-init g c =
    record {
      below = omega arith;
      encoded = c.encode_places-run.ensures.encoded c.args.rle_vals.now
          (encoded_first g.V.PartialEq.eq c.args.input.now c.args.rle_vals.now c.args.rle_idxs.now _ (omega arith) (omega arith)
          (slice_get-get_or c.args.input.now 0 c.index-input-0.result (omega arith)));
    }

pub returns-clause-indexes_below : goal.returns-clause-indexes_below
returns-clause-indexes_below g c = λ k d below.
    rw (get_or_default c.loop-group.rle_idxs k d 0 below) (index-below c.loop-group.invariant.encoded k (omega arith))

pub returns-clause-decodes : goal.returns-clause-decodes
returns-clause-decodes g c = λ i below. entry-decoded c.loop-group.invariant.encoded i (omega arith)

pub returns-clause-restores : goal.returns-clause-restores
returns-clause-restores g c = λ one i below.
    entry-decoded c.loop-group.invariant.encoded i (omega arith) ∙ value-last_start g.V.PartialEq.eq c.args.input.now one i
