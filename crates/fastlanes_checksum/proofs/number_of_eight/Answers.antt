use Rattle.std.proofs.Common.{◌∙◌, sym}
use Rattle.fastlanes_checksum.proofs.Registers.{number_of_eight}
use Rattle.fastlanes_checksum.proofs.number_of_eight.Goals as goal

pub returns : goal.returns
returns c = c.from_le_bytes.ensures ∙ sym (number_of_eight c.args.bytes.now c.requires)
