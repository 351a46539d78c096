use Rattle.std.proofs.Math.Nat.{mul-mod_right}
use Rattle.suite_of_callers.proofs.tests.streamed.streams_bytes.Goals as goal

pub new-words-requires-clause-group : goal.new-words-requires-clause-group
new-words-requires-clause-group g c = mul-mod_right 16 c.loop-group.group
