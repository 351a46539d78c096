use Rattle.std.proofs.Common.{map, take}
use Rattle.flcolumn_words.specs.Requests.{Write}
use Rattle.flcolumn_words.proofs.command.parse.numbers_of.Given as goal

abbrev pub invariant-loop-text : goal.invariant-loop-text
invariant-loop-text l = Write (map (λ text. text.now) (take l.text-index l.texts)) l.numbers.items
