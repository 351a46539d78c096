use Rattle.std.proofs.Common.{◌<◌, ◌≤◌, ◌∙◌, ℕ, ap, arith}
use Rattle.std.proofs.Math.Nat.{mul-div_cancel_left}
use Rattle.fastlanes_base.specs.Sinks.{lane_sink}
use Rattle.fastlanes_rows.proofs.RowsHeld.{words_beside_none}
use Rattle.fastlanes_packing.proofs.Walking.{other_lane}
use Rattle.fastlanes_packing.proofs.Writing.{packs_all, packs_begin, writing_begin}
use Rattle.fastlanes_packing.proofs.lane.pack_lane_into.Goals as goal

pub walk_rows-rest-requires : goal.walk_rows-rest-requires
walk_rows-rest-requires g c =
    let some : 0 < g.E.FastLanes.T = omega (arith, g.met.E.FastLanes.bits_law) in
    let none = ap g.E.FastLanes.number c.zero.ensures ∙ g.met.E.FastLanes.zero_number_law in
    let wide : 0 < c.args.width = omega arith in
    let narrow : c.args.width ≤ g.E.FastLanes.T = omega (arith, c.requires.width, c.args.sink.now.width_fits) in
    let in_lanes : c.args.lane < g.E.FastLanes.LANES = omega (arith, c.requires.lane, c.args.sink.now.lane_fits) in
    record {
      stands = (
        narrow,
        in_lanes,
        writing_begin _ _ _ _ c.requires.width c.requires.lane c.requires.written,
        record { start = c.args.kernel.now; may = c.requires.allowed wide; run = packs_begin _ _ _ _ _ _ _ _ _ _ some none },
      );
    }

pub returns-clause-walk : goal.returns-clause-walk
returns-clause-walk g c = λ wide.
    let some : 0 < g.E.FastLanes.T = omega (arith, g.met.E.FastLanes.bits_law) in
    let none = ap g.E.FastLanes.number c.zero.ensures ∙ g.met.E.FastLanes.zero_number_law in
    packs_all _ _ _ _ _ _ _ _ _ _ _ some (c.walk_rows-rest.ensures.leads c.args.kernel.now c.args.sink.now (packs_begin _ _ _ _ _ _ _ _ _ _ some none, words_beside_none _ _ _ _ _)).0

pub returns-clause-none : goal.returns-clause-none
returns-clause-none g c = λ none. absurd (omega (arith, none))

pub returns-clause-others : goal.returns-clause-others
returns-clause-others g c k other =
    let some : 0 < g.E.FastLanes.T = omega (arith, g.met.E.FastLanes.bits_law) in
    let none = ap g.E.FastLanes.number c.zero.ensures ∙ g.met.E.FastLanes.zero_number_law in
    let led = c.walk_rows-rest.ensures.leads c.args.kernel.now c.args.sink.now (packs_begin _ _ _ _ _ _ _ _ _ _ some none, words_beside_none _ _ _ _ _) in
    led.1.others k (other_lane _ _ k other)

pub returns-clause-sink : goal.returns-clause-sink
returns-clause-sink g c =
    let some : 0 < g.E.FastLanes.T = omega (arith, g.met.E.FastLanes.bits_law) in
    let none = ap g.E.FastLanes.number c.zero.ensures ∙ g.met.E.FastLanes.zero_number_law in
    let led = c.walk_rows-rest.ensures.leads c.args.kernel.now c.args.sink.now (packs_begin _ _ _ _ _ _ _ _ _ _ some none, words_beside_none _ _ _ _ _) in
    led.1.same
    ∙ ap (λ (k : ℕ). record (lane_sink c.args.sink.now) { words = (lane_sink c.walk_rows-rest.new.writer).words; count = k }) (c.walk_rows-rest.ensures.stands.2.written ∙ mul-div_cancel_left _ some)
