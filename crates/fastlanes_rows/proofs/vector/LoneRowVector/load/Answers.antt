use Rattle.std.proofs.Common.{◌≡◌, ◌<◌, ◌+◌, arith, length, sym}
use Rattle.fastlanes_rows.proofs.RowDigits.{number_at_place}
use Rattle.fastlanes_rows.proofs.vector.LoneRowVector.load.Goals as goal

pub returns : goal.returns
returns g c j within =
    let in_range : c.args.from < length c.args.words.now = omega (arith, c.requires) in
    let there : c.args.from + j ≡ c.args.from = omega arith in
    sym (number_at_place _ _ _ _ _ there in_range c.index-words-from.is)
