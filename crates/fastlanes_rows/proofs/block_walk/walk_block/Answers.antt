use Rattle.std.proofs.Common.{◌≡◌, ◌+◌, ◌*◌, ℕ, ap, subst, sym, ◌∙◌, arith}
use Rattle.fastlanes_rows.proofs.block_walk.walk_block.Goals as goal

pub loop-group-preserved : goal.loop-group-preserved
loop-group-preserved g c =
    let value = g.R.GroupReader.value_at in
    let at = value c.args.reader.now c.args.width in
    let lane = c.N-in-loop-group.result * c.loop-group.group in
    let same_lane : lane ≡ g.V.RowVector.N * c.loop-group.group = ap (λ k. k * c.loop-group.group) c.N-in-loop-group.ensures in
    let writer = c.walk_group-carry.new.writer in
    let walked = c.walk_group-carry.ensures in
    let same : value c.walk_group-carry.new.reader ≡ value c.args.reader.now = walked.same ∙ c.begin-read.ensures.same ∙ c.loop-group.invariant.1 in
    let written = c.begin-written.ensures in
    let ended = c.end.ensures in
    let before = subst (λ (k : ℕ). g.O.BlockWriter.done c.loop-group.writer c.args.width k at) (sym same_lane) c.loop-group.invariant.2 in
    let begun = written.done at before in
    let held = subst (λ (v : ℕ → ℕ → ℕ → ℕ). g.O.GroupWriter.holds writer c.args.width lane g.E.MachineWord.T (v c.args.width) c.walk_group-carry.result.1) same walked.holds in
    let rest = walked.beside c.begin-written.new.self written.start in
    let next : lane + g.V.RowVector.N ≡ g.V.RowVector.N * (c.loop-group.group + 1) = ap (λ k. k + g.V.RowVector.N) same_lane ∙ (omega arith) in (
      g.met.R.BlockReader.ready_law _ _ _ _ _ walked.stands,
      same,
      subst (λ (k : ℕ). g.O.BlockWriter.done c.end.new.self c.args.width k at) next
          (ended.done c.begin-written.new.self at begun held rest),
      ended.target c.begin-written.new.self rest ∙ written.target ∙ c.loop-group.invariant.3,
    )
