use Rattle.std.proofs.Common.{◌+◌, arith, length, rules}
use Rattle.std.specs.List.{slice_index}
use Rattle.fastlanes_packing.proofs.SingleDigits.{chosen_more}
use Rattle.fastlanes_pages.proofs.ColumnParts.{each_read}
use Rattle.fastlanes_pages.proofs.block.Block.read_each.Goals as goal

pub loop-k-preserved : goal.loop-k-preserved
loop-k-preserved g c =
    let l = c.loop-k in
    record {
      long = search rules;
      each = chosen_more g.E.MachineWord.number (λ k. slice_index c.args.self.now.values (c.args.from + k)) l.output l.k c.get.result (omega arith) c.get.ensures l.invariant.each;
    }

pub returns-clause-values : goal.returns-clause-values
returns-clause-values g c =
    let l = c.loop-k in
    each_read g.E.MachineWord.number l.output c.args.self.now.values c.args.from (length c.args.output.now) l.invariant.long c.requires
    (λ k below. l.invariant.each k (omega (arith, below)))
