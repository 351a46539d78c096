use Rattle.std.proofs.Common.{◌≡◌, ◌+◌, ◌-◌, arith}
use Rattle.std.proofs.lemmas.List.{map-id}
use Rattle.callers.proofs.folded.spread.Goals as goal

pub returns : goal.returns
returns c =
    let found = c.unpack_range-least.ensures in
    let least = c.unpack_range-least.result.0 in
    let greatest = c.unpack_range-least.result.1 in
    let same : least + (greatest - least) ≡ greatest = omega (arith, found.ordered) in
    (least, rw (map-id c.args.packed.now) at found.least, rw (map-id c.args.packed.now, ← same) at found.greatest)
