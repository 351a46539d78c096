use Rattle.std.proofs.Common.{◌+◌, ◌*◌, ◌<◌, ◌≤◌, ◌∙◌, ap, arith, drop, length, map, refl, rules, sym, take}
use Rattle.std.proofs.lemmas.List.{length-map}
use Rattle.std.proofs.lemmas.Slice.{between_to_end}
use Rattle.std.specs.List.{between}
use Rattle.fastlanes_format.proofs.NumbersKept.{last_behind}
use Rattle.fastlanes_pages.proofs.PageParts.{all_pages, end_most, joined, none_so_far, page_below, pages_end, pages_more, reach_inside, reach_more, room_for_end, room_for_pages}
use Rattle.fastlanes_pages.proofs.PutTails.{drop_made, room_behind, take_made}
use Rattle.fastlanes_pages.proofs.writing.write_pages.Goals as goal

pub write_page_at-place-requires-clause-some : goal.write_page_at-place-requires-clause-some
write_page_at-place-requires-clause-some g c = page_below (length c.args.values.now) c.loop-page.page c.loop-page-test.true

pub write_page_at-place-requires-clause-room : goal.write_page_at-place-requires-clause-room
write_page_at-place-requires-clause-room g c =
    let l = c.loop-page in
    let values = c.args.values.now in
    let below = page_below (length values) l.page c.loop-page-test.true in
    room_for_pages _ _ _ _ (reach_inside values l.page below g.E.MachineWord.T l.place l.invariant.most) c.requires l.invariant.whole

pub loop-page-init : goal.loop-page-init
loop-page-init g c = record {
  whole = refl;
  inside = omega arith;
  most = omega arith;
  are = none_so_far g.E.MachineWord.T g.E.MachineWord.LANES c.args.checked c.args.frames_only (map g.E.MachineWord.number c.args.values.now);
  behind = refl;
}

pub loop-page-preserved : goal.loop-page-preserved
loop-page-preserved g c =
    let t = g.E.MachineWord.T in
    let lanes = g.E.MachineWord.LANES in
    let number = g.E.MachineWord.number in
    let values = c.args.values.now in
    let l = c.loop-page in
    let w = c.write_page_at-place in
    let new = w.new.output in
    let below = page_below (length values) l.page c.loop-page-test.true in
    let some : 65536 * l.page < length (map number values) = rw (length-map values number) below in
    record {
      whole = w.auto.output ∙ l.invariant.whole;
      inside = w.ensures.inside;
      most = reach_more values l.page below t l.place w.result l.invariant.most w.ensures.most;
      are =
          rw (sym (joined new l.place w.result w.ensures.behind_place), w.ensures.before)
          (pages_more t lanes c.args.checked c.args.frames_only (map number values) (take l.place l.output) (between l.place w.result new) l.page some
          w.ensures.page w.ensures.shortest l.invariant.are);
      behind = w.ensures.behind ∙ last_behind l.output _ l.place l.invariant.behind w.result w.ensures.behind_place;
    }

pub put_end-requires : goal.put_end-requires
put_end-requires g c =
    let l = c.loop-page in
    let most = end_most g.E.MachineWord.T l.place (65536 * l.page) c.args.values.now l.invariant.most in
    room_behind l.output l.place 24 (room_for_end _ _ _ _ most c.requires l.invariant.whole)

pub returns-clause-most : goal.returns-clause-most
returns-clause-most g c =
    let l = c.loop-page in
    end_most g.E.MachineWord.T l.place (65536 * l.page) c.args.values.now l.invariant.most

pub returns-clause-pages : goal.returns-clause-pages
returns-clause-pages g c =
    let values = map g.E.MachineWord.number c.args.values.now in
    let l = c.loop-page in
    let tail = c.put_end.new.bytes in
    let many = length-map c.args.values.now g.E.MachineWord.number in
    let all : length values ≤ 65536 * l.page = rw many (pages_end (length c.args.values.now) l.page (search rules)) in
    rw (take_made l.output tail l.place l.invariant.inside 24)
    (all_pages g.E.MachineWord.T g.E.MachineWord.LANES c.args.checked c.args.frames_only values (take l.place l.output) (take 24 tail) l.page all (rw many c.put_end.ensures.end) l.invariant.are)

pub returns-clause-behind : goal.returns-clause-behind
returns-clause-behind g c =
    let l = c.loop-page in
    let tail = c.put_end.new.bytes in
    drop_made l.output tail l.place l.invariant.inside 24
    (c.put_end.ensures.behind ∙ ap (drop 24) (between_to_end l.output l.place (length l.output) (omega arith)))
    ∙ last_behind l.output _ l.place l.invariant.behind (l.place + 24) (omega arith)
