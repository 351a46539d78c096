use Rattle.std.proofs.Common.{◌≡◌, ℕ, ◌+◌, ◌*◌, ◌/◌, ◌<◌, ap, arith, length, rules, take}
use Rattle.std.proofs.lemmas.Result.{err_from_is_err_and}
use Rattle.fastlanes_column_streams.proofs.Counts.{one_page_more, place_more, stops_all, values_of_all}
use Rattle.fastlanes_column_streams.proofs.PagesTogether.{encodes_all, encodes_more, encodes_none}
use Rattle.fastlanes_column_streams.proofs.encode.encode_stream.Goals as goal

pub pages-init : goal.pages-init
pages-init g c = record {
  reads = search rules;
  writes = search rules;
  place = search rules;
  given = λ told. omega arith;
  pages = λ told tells. encodes_none g.E.MachineWord.T g.E.MachineWord.LANES c.args.options.checked c.args.options.frames_only _ _;
}

pub returns-then-count-lt65536-clause-encodes : goal.returns-then-count-lt65536-clause-encodes
returns-then-count-lt65536-clause-encodes g c = λ told tells.
    let head = rw c.T.ensures at c.put_column_head.ensures.head in
    let pages = encodes_more g.E.MachineWord.T g.E.MachineWord.LANES c.args.options.checked c.args.options.frames_only (65536 * c.pages.page) c.in_ok-count.count
    (c.pages.invariant.pages told tells) (omega arith) (c.in_ok-count.ensures.encodes told tells) in
    let few : c.in_ok-count.count < 65536 = c.if-count-lt65536.true in
    encodes_all g.E.MachineWord.T g.E.MachineWord.LANES c.args.options.checked c.args.options.frames_only (65536 * c.pages.page + c.in_ok-count.count)
    (take 8 c.put_column_head.new.bytes) (take 24 c.put_end.new.bytes) head (c.in_ok-deliver.ensures.takes tells)
    pages ((c.in_ok-count.ensures.encodes told tells).ended few) c.put_end.ensures.end (c.in_ok-finish.ensures.delivers tells)

pub pages-preserved : goal.pages-preserved
pages-preserved g c =
    let size = g.E.MachineWord.T / 8 in
    let more = one_page_more size c.pages.page in
    let full : c.in_ok-count.count ≡ 65536 = omega (arith, c.in_ok-count.ensures.most, c.if-count-lt65536.false) in
    let next : 65536 * c.pages.page + c.in_ok-count.count ≡ 65536 * (c.pages.page + 1) = omega (arith, full) in
    record {
      reads = search rules;
      writes = search rules;
      place = place_more size c.pages.page c.pages.place _ (rw c.T-in-pages.ensures at c.saturating_add-place.ensures) c.pages.invariant.place;
      given = λ told. omega (arith, more, c.pages.invariant.given told, c.in_ok-count.ensures.count told, ap (λ (n : ℕ). n * size) full);
      pages = λ told tells. rw next at (encodes_more g.E.MachineWord.T g.E.MachineWord.LANES c.args.options.checked c.args.options.frames_only (65536 * c.pages.page) c.in_ok-count.count
          (c.pages.invariant.pages told tells) (omega arith) (c.in_ok-count.ensures.encodes told tells));
    }

pub returns-then-count-lt65536-clause-count : goal.returns-then-count-lt65536-clause-count
returns-then-count-lt65536-clause-count g c = λ told.
    let size = g.E.MachineWord.T / 8 in
    let all = values_of_all size c.pages.page c.in_ok-count.count in
    let ended = c.in_ok-count.ensures.ended told c.if-count-lt65536.true in
    let none : length (g.I.ByteIn.source c.encode_next.new.input).left ≡ 0 = ap length ended in
    omega (arith, all, none, c.pages.invariant.given told, c.in_ok-count.ensures.count told)

pub returns-in_err-count-clause-stops : goal.returns-in_err-count-clause-stops
returns-in_err-count-clause-stops g c = λ told.
    let p = err_from_is_err_and c.from_residual-in_err-count.result c.from_residual-in_err-count.ensures.1 in
    rw (p.1, p.2) (stops_all (g.E.MachineWord.T / 8) c.pages.page c.pages.place _ _ c.in_err-count.field-0.0 (c.pages.invariant.given told) c.pages.invariant.place
    (c.in_err-count.ensures.stops told))
