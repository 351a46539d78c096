use Rattle.std.proofs.Common.{arith}
use Rattle.std.proofs.lemmas.Grind.{common_steps}
use Rattle.fastlanes_checksum.proofs.Quotients.{pending_at_first}
use Rattle.fastlanes_checksum.proofs.division.put_register.Goals as goal

pub returns : goal.returns
returns c =
    pending_at_first _ c.args.register (omega (arith, c.ranges.register)) (grind (arith, common_steps, c.told-tape)) (grind (arith, common_steps, c.told-tape))
    (grind (arith, common_steps, c.told-tape)) (grind (arith, common_steps, c.told-tape)) (λ i behind. grind (arith, common_steps, c.requires i behind))
