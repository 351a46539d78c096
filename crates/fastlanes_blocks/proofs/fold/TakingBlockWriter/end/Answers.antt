use Rattle.std.proofs.Common.{◌≡◌, ℕ, ◌+◌, ◌*◌, subst, arith}
use Rattle.fastlanes_blocks.specs.Walks.{walk_places, with_values}
use Rattle.fastlanes_blocks.proofs.fold.TakingBlockWriter.end.Goals as goal

pub returns-clause-done : goal.returns-clause-done
returns-clause-done g c start at before (below, group, same, took) beside =
    let t = g.E.MachineWord.T in
    let n = g.V.RowVector.N in
    let next : (group * t + t) * n ≡ (group + 1) * t * n = omega arith in
    (below, group + 1, omega (arith, same), subst (λ (k : ℕ). g.K.RowKernel.took c.args._width c.args.self.now.kernel (with_values g.E.MachineWord.LANES at (walk_places t n k))) next took)
