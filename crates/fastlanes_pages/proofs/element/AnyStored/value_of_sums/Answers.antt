use Rattle.std.proofs.Common.{◌≡◌, ◌+◌, ◌*◌, ◌/◌, ◌%◌, ◌<◌, ◌∙◌, ap, arith, sym}
use Rattle.fastlanes.specs.Digits.{digit}
use Rattle.fastlanes.specs.Order.{lane_at, place, row_at}
use Rattle.fastlanes.proofs.Places.{place-lt}
use Rattle.fastlanes.proofs.Transposing.{original_index-lt}
use Rattle.fastlanes_pages.specs.ColumnValues.{words_in}
use Rattle.fastlanes_pages.proofs.SumWords.{lane_sum, sum_more, sum_none, sums_are}
use Rattle.fastlanes_pages.proofs.WordCounts.{lanes_most}
use Rattle.fastlanes_pages.proofs.element.AnyStored.value_of_sums.Goals as goal

pub lane_of-lane-requires : goal.lane_of-lane-requires
lane_of-lane-requires g c = rw c.index-place.ensures (original_index-lt c.args.i c.requires.index)

pub row_of-row-end-requires : goal.row_of-row-end-requires
row_of-row-end-requires g c = rw c.index-place.ensures (original_index-lt c.args.i c.requires.index)

pub overflow_add-row-end : goal.overflow_add-row-end
overflow_add-row-end g c = omega (arith, c.row_of-row-end.ensures.below, g.met.E.FastLanes.bits_law)

pub loop-row-init : goal.loop-row-init
loop-row-init g c =
    sum_none g.E.FastLanes.T g.E.FastLanes.LANES c.args.width c.args.before.now c.args.bytes.now c.lane_of-lane.result
    (g.E.FastLanes.number c.word_at-sum.result) c.word_at-sum.ensures.below c.word_at-sum.ensures.value

pub index-requires-clause-row : goal.index-requires-clause-row
index-requires-clause-row g c = omega (arith, c.loop-row-test.true, c.row_of-row-end.ensures.below, g.met.E.FastLanes.bits_law)

pub index-requires-clause-lane : goal.index-requires-clause-lane
index-requires-clause-lane g c = omega (arith, c.lane_of-lane.ensures.below, lanes_most _ _ g.met.E.FastLanes.layout_law)

pub digit_in_bytes-requires-clause-index : goal.digit_in_bytes-requires-clause-index
digit_in_bytes-requires-clause-index g c =
    rw c.index.ensures
    (place-lt g.E.FastLanes.T g.E.FastLanes.LANES c.loop-row.row c.lane_of-lane.result g.met.E.FastLanes.layout_law
    (omega (arith, c.loop-row-test.true, c.row_of-row-end.ensures.below)) c.lane_of-lane.ensures.below)

pub loop-row-preserved : goal.loop-row-preserved
loop-row-preserved g c =
    let t = g.E.FastLanes.T in
    let lanes = g.E.FastLanes.LANES in
    let bytes = c.args.bytes.now in
    let lane = c.lane_of-lane.result in
    let inside : place c.loop-row.row lane < 1024 =
    place-lt t lanes c.loop-row.row lane g.met.E.FastLanes.layout_law (omega (arith, c.loop-row-test.true, c.row_of-row-end.ensures.below)) c.lane_of-lane.ensures.below in
    c.word_add-sum.ensures.value
    ∙ sum_more t lanes c.args.width c.args.before.now bytes lane c.loop-row.row (g.E.FastLanes.number c.loop-row.sum) (g.E.FastLanes.number c.digit_in_bytes.result)
    inside c.loop-row.invariant
    (c.digit_in_bytes.ensures ∙ ap (digit t lanes c.args.width (words_in t (lanes * c.args.width) bytes)) c.index.ensures)

pub returns : goal.returns
returns g c =
    let t = g.E.FastLanes.T in
    let lanes = g.E.FastLanes.LANES in
    let sums = lane_sum t lanes c.args.width c.args.before.now c.args.bytes.now in
    let i = c.args.i in
    let lane : c.lane_of-lane.result ≡ lane_at lanes (place (i % 64) (i / 64)) = c.lane_of-lane.ensures.value ∙ ap (lane_at lanes) c.index-place.ensures in
    let row : c.row_of-row-end.result ≡ row_at lanes (place (i % 64) (i / 64)) = c.row_of-row-end.ensures.value ∙ ap (row_at lanes) c.index-place.ensures in
    let end : c.loop-row.row ≡ c.row_of-row-end.result + 1 = omega (arith, c.loop-row-test.false, c.loop-row.auto.row-end) in
    c.loop-row.invariant ∙ ap (λ n. sums n c.loop-row.row) lane ∙ ap (sums (lane_at lanes (place (i % 64) (i / 64)))) (end ∙ ap (λ n. n + 1) row)
    ∙ sym (sums_are t lanes c.args.width c.args.before.now c.args.bytes.now i c.requires.index)
