use Rattle.std.proofs.Common.{◌<◌, arith}
use Rattle.std.proofs.lemmas.List.Elements.{All-replicate}
use Rattle.suite.proofs.tests.rle.assert_alternates.Goals as goal

pub loop-i-init : goal.loop-i-init
loop-i-init g c = All-replicate (λ index. g.I.RunIndex.place index < 2) 1024 c.args.zero (omega (arith, c.requires.zero))
