use Rattle.std.proofs.Common.{length, map, rules}
use Rattle.fastlanes_pages.proofs.Parts.{numbers_begin}
use Rattle.fastlanes_pages.proofs.reading.read_short_part.Goals as goal

pub returns-clause-values : goal.returns-clause-values
returns-clause-values g c =
    let number = g.E.MachineWord.number in
    let whole = c.read_block.new.output in
    record {
      whole = map number whole;
      holds = c.read_block.ensures.holds;
      begins = numbers_begin number whole c.copy_from_slice.new.self (length c.args.part.now) (search rules) (search rules);
    }
