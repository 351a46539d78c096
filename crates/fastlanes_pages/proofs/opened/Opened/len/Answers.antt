use Rattle.std.proofs.Common.{arith}
use Rattle.fastlanes_pages.proofs.ColumnParts.{values_count}
use Rattle.fastlanes_pages.proofs.opened.Opened.len.Goals as goal

pub returns : goal.returns
returns g c = omega (arith, c.requires.count, values_count g.E.MachineWord.T g.E.MachineWord.LANES c.args.self.now.bytes.now)
