use Rattle.fastlanes_format.proofs.BlockPlaces.{page_longest}
use Rattle.fastlanes_column_streams.proofs.next.page_room.Goals as goal

pub returns-clause-longest : goal.returns-clause-longest
returns-clause-longest c = λ checked page is. page_longest c.args.bits checked page is
