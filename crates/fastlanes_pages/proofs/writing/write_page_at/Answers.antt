use Rattle.std.proofs.Common.{ℕ, ◌+◌, ◌≤◌, ◌∙◌, ap, arith, drop, length, map, subst, sym}
use Rattle.std.proofs.lemmas.Slice.{between_to_end}
use Rattle.std.specs.List.{between}
use Rattle.fastlanes_pages.proofs.PageParts.{map_page_part, same_most}
use Rattle.fastlanes_pages.proofs.PutTails.{add_most, before_room, drop_made, first_made, made_inside, part_made, room_behind}
use Rattle.fastlanes_pages.specs.Shortest.{page_most}
use Rattle.fastlanes_pages.proofs.writing.write_page_at.Goals as goal

pub write_page-requires-clause-room : goal.write_page-requires-clause-room
write_page-requires-clause-room g c =
    let output = c.args.output.now in
    subst (λ (n : ℕ). page_most g.E.MachineWord.T n ≤ length (between c.args.place (length output) output))
    (sym (ap length c.values_of_page-part.ensures.part))
    (room_behind output c.args.place _ c.requires.room)

pub slice_bounds-write_page-count : goal.slice_bounds-write_page-count
slice_bounds-write_page-count g c = before_room c.args.place _ (length c.args.output.now) c.requires.room

pub returns : goal.returns
returns g c =
    let number = g.E.MachineWord.number in
    let a = c.args in
    let n = c.write_page.result in
    let output = a.output.now in
    let page = c.write_page.new.output in
    let written = c.write_page.ensures in
    let part = c.values_of_page-part.ensures.part in
    let inside = before_room a.place _ (length output) c.requires.room in
    let bytes = part_made output page a.place inside n in
    let numbers = sym (ap (map number) part ∙ map_page_part number a.values.now a.page) in
    record {
      inside = made_inside output page a.place inside n written.inside;
      behind_place = omega arith;
      most = subst (λ (m : ℕ). a.place + n ≤ a.place + page_most g.E.MachineWord.T m) (ap length part) (add_most a.place n _ written.most);
      before = first_made output page a.place inside;
      page = rw (bytes, numbers) written.page;
      shortest = rw (bytes, numbers) written.shortest;
      behind =
          drop_made output page a.place inside n (written.behind ∙ ap (drop n) (between_to_end output a.place (length output) (same_most _)));
    }
