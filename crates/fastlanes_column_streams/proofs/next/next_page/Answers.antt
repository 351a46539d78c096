use Rattle.std.proofs.Common.{◌≡◌, ℕ, ◌+◌, ◌∙◌, ◌<◌, ◌≤◌, [], Bool, List, ap, arith, inl, inr, length, take}
use Rattle.std.proofs.lemmas.List.{length-take-le, take-take}
use Rattle.std.proofs.lemmas.Bool.{cases_lt}
use Rattle.std.proofs.lemmas.Result.{err_from_is_err_and}
use Rattle.fastlanes_column_streams.proofs.Ended.{declared, not_refused, only_fails}
use Rattle.fastlanes_column_streams.proofs.Refused.{refuses_long, refuses_trailing}
use Rattle.fastlanes_format.proofs.NumberPlaces.{number_at-take}
use Rattle.fastlanes_format.specs.Format.{BeginsWithPage, head_len, number_at, values_of}
use Rattle.fastlanes_column_streams.proofs.next.next_page.Goals as goal

-- the first bytes begin with a page, and so do all
begins : (bits : ℕ) (checked : Bool) (before : ℕ) (bytes : List ℕ) (count len values : ℕ) → count ≤ length bytes
    → BeginsWithPage bits checked before (take count bytes) len values → BeginsWithPage bits checked before bytes len values
begins bits checked before bytes count len values within page =
    let inside : len ≤ count = omega (arith, page.inside, length-take-le count bytes within) in
    let same : take len (take count bytes) ≡ take len bytes = take-take len count bytes inside in
    record {
      inside = omega (arith, inside, within);
      room = page.room;
      page = rw same at page.page;
      count = page.count ∙ ap values_of same;
    }

-- and there are no more of them, where there are no more than the head says
all_of_page : (bits : ℕ) (checked : Bool) (before : ℕ) (bytes : List ℕ) (count len values : ℕ) → count ≤ length bytes
    → (16 ≤ count → count ≤ 16 + number_at 4 bytes 8) → BeginsWithPage bits checked before (take count bytes) len values → count ≡ len
all_of_page bits checked before bytes count len values within no_more first =
    let inside : len ≤ count = omega (arith, first.inside, length-take-le count bytes within) in
    let page = begins bits checked before bytes count len values within first in
    let long = length-take-le len bytes page.inside in
    let same = number_at-take 4 len bytes 8 (omega (arith, page.page.len)) in
    let full : len ≡ 16 + number_at 4 bytes 8 = omega (arith, long, same, page.page.len) in
    omega (arith, full, inside, no_more (omega (arith, full, inside)))

pub returns-in-Ok-Page-clause-found : goal.returns-in-Ok-Page-clause-found
returns-in-Ok-Page-clause-found g c =
    let next = rw c.in-Ok-Page.field-0-is at c.in-Ok-Page.ensures.next in
    begins _ _ _ _ _ _ _ c.in_ok-count.ensures.within next

pub returns-in-Ok-Page-clause-gives : goal.returns-in-Ok-Page-clause-gives
returns-in-Ok-Page-clause-gives g c = λ told.
    let next = rw c.in-Ok-Page.field-0-is at c.in-Ok-Page.ensures.next in
    let count = c.in_ok-count in
    rw (all_of_page _ _ _ _ _ _ _ count.ensures.within count.ensures.no_more next) at (count.ensures.gives told)

pub returns-in_err-count-clause-refuses : goal.returns-in_err-count-clause-refuses
returns-in_err-count-clause-refuses g c = λ told.
    let p = err_from_is_err_and c.from_residual.result c.from_residual.ensures.1 in
    let left = (g.I.ByteIn.source c.args.input.now).left in
    rw (p.1, p.2) (refuses_long c.args.bits c.args.checked c.args.before (length c.args.bytes.now) left c.in_err-count.field-0.0 (c.in_err-count.ensures.refuses told))

pub returns-in_err-read_behind-in-Ok-End-clause-refuses : goal.returns-in_err-read_behind-in-Ok-End-clause-refuses
returns-in_err-read_behind-in-Ok-End-clause-refuses g c = λ told.
    let p = err_from_is_err_and c.from_residual-in_err-read_behind-in-Ok-End.result c.from_residual-in_err-read_behind-in-Ok-End.ensures.1 in
    let end = rw c.in-Ok-End.field-0-is at c.in-Ok-End.ensures.next in
    let first = c.in_ok-count.ensures.gives told in
    rw (p.1, p.2) (refuses_trailing c.args.bits c.args.checked c.args.before (length c.args.bytes.now) _ _ _ c.in_err-read_behind-in-Ok-End.field-0.0 first.left end.0
    (c.in_err-read_behind-in-Ok-End.ensures.trailing told))

pub returns-in_err-count-clause-too_long : goal.returns-in_err-count-clause-too_long
returns-in_err-count-clause-too_long g c = λ told long more.
    let p = err_from_is_err_and c.from_residual.result c.from_residual.ensures.1 in
    rw (p.1, p.2) (c.in_err-count.ensures.too_long told more)

pub returns-in_err-read_behind-in-Ok-End-clause-too_long : goal.returns-in_err-read_behind-in-Ok-End-clause-too_long
returns-in_err-read_behind-in-Ok-End-clause-too_long g c = λ told long more. absurd (omega (arith, more, (c.in_ok-count.ensures.fits told long).0))

pub returns-in-Err-clause-too_long : goal.returns-in-Err-clause-too_long
returns-in-Err-clause-too_long g c = λ told long more. absurd (omega (arith, more, (c.in_ok-count.ensures.fits told long).0))

pub returns-in_err-count-clause-lacks_room : goal.returns-in_err-count-clause-lacks_room
returns-in_err-count-clause-lacks_room g c = λ told long more.
    let p = err_from_is_err_and c.from_residual.result c.from_residual.ensures.1 in
    rw (p.1, p.2) (c.in_err-count.ensures.lacks_room told more)

pub returns-in_err-read_behind-in-Ok-End-clause-lacks_room : goal.returns-in_err-read_behind-in-Ok-End-clause-lacks_room
returns-in_err-read_behind-in-Ok-End-clause-lacks_room g c = λ told long more. absurd (omega (arith, more.0, (c.in_ok-count.ensures.fits told long).1))

pub returns-in-Err-clause-lacks_room : goal.returns-in-Err-clause-lacks_room
returns-in-Err-clause-lacks_room g c = λ told long more. absurd (omega (arith, more.0, (c.in_ok-count.ensures.fits told long).1))

pub returns-in_err-count-clause-trailing : goal.returns-in_err-count-clause-trailing
returns-in_err-count-clause-trailing g c = λ told end rest is all.
    let p = err_from_is_err_and c.from_residual.result c.from_residual.ensures.1 in
    let left = (g.I.ByteIn.source c.args.input.now).left in
    let len : head_len left ≡ 24 = declared c.args.checked c.args.before end rest [] left is all in
    rw (p.1, p.2) (only_fails c.args.bits (length c.args.bytes.now) left _ _ c.in_err-count.field-0.0 len c.requires.room (c.in_err-count.ensures.refuses told))

pub returns-in_err-read_behind-in-Ok-End-clause-trailing : goal.returns-in_err-read_behind-in-Ok-End-clause-trailing
returns-in_err-read_behind-in-Ok-End-clause-trailing g c = λ told end rest is all.
    let p = err_from_is_err_and c.from_residual-in_err-read_behind-in-Ok-End.result c.from_residual-in_err-read_behind-in-Ok-End.ensures.1 in
    rw (p.1, p.2) c.in_err-read_behind-in-Ok-End.ensures.error

-- no more bytes came than the head says
head_no_more : (count : ℕ) (bytes : List ℕ) → count ≤ length bytes → (16 ≤ count → count ≤ 16 + number_at 4 bytes 8)
    → length (take count bytes) ≤ head_len (take count bytes)
head_no_more count bytes within no_more =
    let long = length-take-le count bytes within in
    elim (cases_lt count 16) [
      | inl few ↦ omega (arith, long, few)
      | inr more ↦ let same = number_at-take 4 count bytes 8 (omega (arith, more)) in omega (arith, long, same, no_more more)
    ]

pub returns-in-Err-clause-trailing : goal.returns-in-Err-clause-trailing
returns-in-Err-clause-trailing g c = λ told end rest is all.
    let count = c.in_ok-count in
    let head = take count.count c.read_next.new.bytes in
    let long = length-take-le count.count c.read_next.new.bytes count.ensures.within in
    let ended : length head < head_len head → (g.I.ByteIn.source c.read_next.new.input).left ≡ [] = λ few. count.ensures.ended told (omega (arith, long, few)) in
    absurd (not_refused c.args.checked c.args.before end rest (take count.count c.read_next.new.bytes) _ is (all ∙ (count.ensures.gives told).left) c.args.bits
    (head_no_more count.count c.read_next.new.bytes count.ensures.within count.ensures.no_more) ended c.in-Err.ensures.other)
