use Rattle.std.proofs.Common.{◌≡◌, ℕ, ◌-◌, ◌≤◌, ◌++◌, arith, drop, length, rules}
use Rattle.std.proofs.lemmas.List.{length-append, length-take}
use Rattle.fastlanes_column_streams.proofs.Together.{head_and_rest, head_stays, room_for_rest}
use Rattle.fastlanes_column_streams.proofs.next.read_next.Goals as goal

pub returns-clause-gives : goal.returns-clause-gives
returns-clause-gives g c = λ told.
    let head = c.fill.new.buffer in
    let long : length head ≡ 16 = search rules in
    let within = c.in_ok-head.ensures.within in
    head_and_rest head (drop 16 c.args.bytes.now) c.fill-2.new.buffer (c.declared_len-len.result - 16) c.in_ok-head.head c.in_ok-rest.rest
    long (omega (arith, long, within)) c.in_ok-rest.ensures.within (c.in_ok-head.ensures.gives told) (c.in_ok-rest.ensures.gives told)

pub returns-clause-within : goal.returns-clause-within
returns-clause-within g c =
    let head = c.fill.new.buffer in
    let long : 16 ≤ length (head ++ drop 16 c.args.bytes.now) = omega (arith, length-append {A = ℕ}) in
    let room = room_for_rest (c.declared_len-len.result - 16) (head ++ drop 16 c.args.bytes.now) c.fill-2.new.buffer long in
    omega (arith, room, c.in_ok-rest.ensures.within)

pub returns-clause-no_more : goal.returns-clause-no_more
returns-clause-no_more g c = λ _.
    let head = c.fill.new.buffer in
    let long : 16 ≤ length (head ++ drop 16 c.args.bytes.now) = omega (arith, length-append {A = ℕ}) in
    let stays = head_stays (c.declared_len-len.result - 16) (head ++ drop 16 c.args.bytes.now) c.fill-2.new.buffer long in
    omega (arith, stays, c.declared_len-len.ensures, c.in_ok-rest.ensures.within, length-take {A = ℕ})
