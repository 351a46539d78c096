use Rattle.std.proofs.Common.{ap}
use Rattle.fastlanes_pages.proofs.ColumnParts.{view_long}
use Rattle.fastlanes_pages.proofs.block.Block.len.Goals as goal

pub returns-clause-value : goal.returns-clause-value
returns-clause-value g c =
    let s = c.self.inside in
    view_long g.E.MachineWord.T g.E.MachineWord.LANES s.differences s.width s.reference s.bytes.now s.len c.args.self.now.values c.self.invariant.most (ap (λ b. b.values) c.self.view_is)
