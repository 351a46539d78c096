use Rattle.std.proofs.Common.{◌+◌, ◌*◌, ◌/◌, ap}
use Rattle.fastlanes_pages.proofs.WordPlaces.{word_in}
use Rattle.fastlanes_pages.proofs.single.word_at.Goals as goal

pub returns-clause-value : goal.returns-clause-value
returns-clause-value g c =
    let t = g.E.FastLanes.T in
    let start = c.T.result / 8 * c.args.place in
    word_in t g.met.E.FastLanes.bits_law (g.E.FastLanes.LANES * c.args.width) c.args.place (g.E.FastLanes.number c.of_bytes.result) c.args.bytes.now
    start (start + c.T-2.result / 8) c.requires.place (ap (λ n. n / 8 * c.args.place) c.T.ensures) (ap (λ n. start + n / 8) c.T-2.ensures)
    c.of_bytes.ensures.below c.of_bytes.ensures.bytes
