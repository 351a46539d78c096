use Rattle.std.proofs.Common.{ℕ, ◌+◌, ◌-◌, ◌/◌, arith}
use Rattle.fastlanes_format.proofs.NotedPlaces.{none_between, noted_more, stride_room}
use Rattle.fastlanes_format.proofs.places.note_starts.Goals as goal

pub starts-preserved : goal.starts-preserved
starts-preserved c =
    let l = c.starts in
    let last : ℕ = (c.args.values - 1) / 65536 in
    let stride : ℕ = last / 256 + 1 in
    let room = stride_room l.k stride last (omega (arith, l.invariant.page, l.invariant.before)) (omega arith) in
    record {
      page = omega (arith, l.invariant.page);
      before = omega (arith, c.starts-test.true, l.invariant.before);
      place = c.place_after-place.ensures;
      noted = noted_more c.args.bytes.now l.starts l.k l.place stride (omega (arith, room)) l.invariant.noted (rw l.invariant.page at l.invariant.place);
    }

pub returns : goal.returns
returns c =
    let l = c.starts in
    let last : ℕ = (c.args.values - 1) / 65536 in
    let stride : ℕ = last / 256 + 1 in
    let room = stride_room l.k stride last (omega (arith, l.invariant.page, l.invariant.before)) (omega arith) in
    record {
      some = omega arith;
      room = omega (arith, c.requires.values);
      least = λ other enough some. omega (arith, enough, some, c.requires.values);
      all = λ few. omega (arith, few, c.requires.values);
      each = λ j there.
          noted_more c.args.bytes.now l.starts l.k l.place stride (omega (arith, room)) l.invariant.noted (rw l.invariant.page at l.invariant.place) j
          (none_between l.k j stride last (omega (arith, c.starts-test.false, l.invariant.page)) (omega (arith, there, c.requires.values)));
    }
