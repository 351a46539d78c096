use Rattle.std.proofs.Common.{◌≡◌, ◌+◌, arith, suc}
use Rattle.fastlanes_format.proofs.PagePlaces.{page_at}
use Rattle.fastlanes_format.proofs.places.place_after.Goals as goal

pub place_behind-at-requires : goal.place_behind-at-requires
place_behind-at-requires c =
    let l = c.loop-done in
    let here = page_at c.requires.column.0 c.args.bytes.now c.requires.column.1 (c.args.page + l._done) (omega (arith, c.requires.there)) in
    rw l.invariant.place here.inside

pub loop-done-preserved : goal.loop-done-preserved
loop-done-preserved c =
    let l = c.loop-done in
    let next : suc (c.args.page + l._done) ≡ c.args.page + (l._done + 1) = omega arith in
    record { place = rw (← next, ← l.invariant.place) c.place_behind-at.ensures.value }
