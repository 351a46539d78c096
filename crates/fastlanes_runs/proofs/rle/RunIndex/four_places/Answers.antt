use Rattle.std.proofs.Common.{◌∙◌, ◌+◌, arith, below_more, get_or-set_other, get_or-set_same, sym}
use Rattle.std.proofs.lemmas.List.{get_or-map, length-set}
use Rattle.fastlanes_runs.proofs.rle.RunIndex.four_places.Goals as goal

pub loop-j-preserved : goal.loop-j-preserved
loop-j-preserved g c =
    record {
      long = rw length-set c.loop-j.invariant.long;
      each = below_more _ _
          (λ k below. get_or-set_other c.loop-j.places c.loop-j.j k c.place.result 0 (λ same. omega (arith, same, below)) ∙ c.loop-j.invariant.each k below)
          (get_or-set_same c.loop-j.places c.loop-j.j c.place.result 0 (omega (arith, c.loop-j.invariant.long)) ∙ c.place.ensures
          ∙ sym (get_or-map g.Self.RunIndex.place c.args.indexes.now (c.args.from + c.loop-j.j) c.index-indexes-from.result 0 (omega arith)));
    }
