use Rattle.std.proofs.Common.{◌<◌, ◌≤◌, arith, refl}
use Rattle.fastlanes_packing.proofs.Reading.{all_taken, reading_begin}
use Rattle.fastlanes_packing.proofs.Walking.{may_begin}
use Rattle.fastlanes_packing.proofs.lane.unpack_lane_from.Goals as goal

pub walk_rows-last-requires : goal.walk_rows-last-requires
walk_rows-last-requires g c =
    let some : 0 < g.E.FastLanes.T = omega (arith, g.met.E.FastLanes.bits_law) in
    let narrow : c.args.width ≤ g.E.FastLanes.T = omega arith in
    let in_lanes : c.args.lane < g.E.FastLanes.LANES = omega arith in
    record { stands = (narrow, in_lanes, reading_begin _ _ _ _ _ _ _ some c.requires.width c.requires.lane c.requires.taken, may_begin _ _ _ _ _ c.requires.allowed) }

pub returns-clause-walk : goal.returns-clause-walk
returns-clause-walk g c =
    let led = c.walk_rows-last.ensures.leads c.args.words.now c.args.kernel.now (refl, refl) in
    rw led.0 at led.1

pub returns-clause-words : goal.returns-clause-words
returns-clause-words g c =
    let some : 0 < g.E.FastLanes.T = omega (arith, g.met.E.FastLanes.bits_law) in
    let led = c.walk_rows-last.ensures.leads c.args.words.now c.args.kernel.now (refl, refl) in
    all_taken _ _ _ _ _ c.args.words.now c.walk_rows-last.new.reader _ some c.requires.width c.requires.lane led.0 c.walk_rows-last.ensures.stands.2
