use Rattle.std.proofs.Common.{rules}
use Rattle.callers.proofs.Streams.{group_rows, group_word}
use Rattle.callers.proofs.streamed.RowWordsWordSource.next_row.Goals as goal

pub next_row-requires : goal.next_row-requires
next_row-requires g c = (search rules, group_rows _ _ _ _ _ c.requires)

pub returns-clause-row : goal.returns-clause-row
returns-clause-row g c = group_word g.E.FastLanes.number _ _ _ _ _ _ (group_rows _ _ _ _ _ c.requires) c.next_row.ensures.row
