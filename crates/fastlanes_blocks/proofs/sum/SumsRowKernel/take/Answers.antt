use Rattle.std.proofs.Common.{ap, sym, ◌∙◌, ◌%◌, ◌^◌, ◌+◌}
use Rattle.fastlanes_blocks.proofs.Summed.{Adds, adds_whole, lanes_some, summed_more}
use Rattle.fastlanes_blocks.proofs.sum.SumsRowKernel.take.Goals as goal

pub returns-then-cut-T : goal.returns-then-cut-T
returns-then-cut-T g c = record {
  took = λ before (half, lanes, sums) room below.
      let some = lanes_some _ _ half in
      let size = g.met.E.MachineWord.bits_law in
      let whole = sym c.bits_below_cut-cut.ensures ∙ c.if-cut-T.true ∙ c.T.ensures in
      let adds = adds_whole _ _ c.args.width _ _ _ _ before size some c.requires.width half room below sums whole c.plus-self.ensures in
      (half, lanes, summed_more _ _ _ c.args._from _ _ _ _ _ before size some c.requires.width half room below adds sums);
}

pub returns-else-cut-T : goal.returns-else-cut-T
returns-else-cut-T g c = record {
  took = λ before (half, lanes, sums) room below.
      let some = lanes_some _ _ half in
      let size = g.met.E.MachineWord.bits_law in
      let at = g.V.RowVector.at in
      let same = c.bits_below_cut-cut.ensures in
      let adds : Adds g.E.MachineWord.T g.V.RowVector.N c.args.width (at c.args.self.now.low) (at c.args.self.now.high) (at c.args.digits) (at c.plus-self-else-cut-T.result) (at c.plus-self-else-cut-T-2.result) = record {
        lower = λ j inside. c.plus-self-else-cut-T.ensures j inside ∙ ap (λ x. (at c.args.self.now.low j + x) % 2 ^ g.E.MachineWord.T) (rw same at (c.low.ensures.value j inside));
        upper = λ j inside. c.plus-self-else-cut-T-2.ensures j inside ∙ ap (λ x. (at c.args.self.now.high j + x) % 2 ^ g.E.MachineWord.T) (rw same at (c.down.ensures.value j inside));
      } in
      (half, lanes, summed_more _ _ _ c.args._from _ _ _ _ _ before size some c.requires.width half room below adds sums);
}
