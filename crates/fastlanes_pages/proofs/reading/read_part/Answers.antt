use Rattle.std.proofs.Common.{map, rules}
use Rattle.fastlanes_pages.proofs.Parts.{whole_begins}
use Rattle.fastlanes_pages.proofs.reading.read_part.Goals as goal

pub returns-in-Some-clause-values : goal.returns-in-Some-clause-values
returns-in-Some-clause-values g c =
    let number = g.E.MachineWord.number in
    record {
      whole = map number c.read_block.new.output;
      holds = c.read_block.ensures.holds;
      begins = whole_begins number c.read_block.new.output c.args.part.now c.read_block.ensures.whole (search rules);
    }
