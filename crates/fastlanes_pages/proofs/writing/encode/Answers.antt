use Rattle.std.proofs.Common.{◌≡◌, ℕ, ◌+◌, ◌/◌, ◌≤◌, ◌∙◌, List, ap, arith, drop, length, map, rules, subst, sym}
use Rattle.std.proofs.lemmas.List.{length-map}
use Rattle.std.proofs.lemmas.Slice.{between_to_end}
use Rattle.fastlanes_format.specs.Format.{IsColumnHead}
use Rattle.fastlanes_format.proofs.NumbersKept.{last_behind}
use Rattle.fastlanes_pages.proofs.ColumnValues.{are_column, column_count_is, column_values_are}
use Rattle.fastlanes_pages.proofs.LeastValues.{heads_tell}
use Rattle.fastlanes_pages.proofs.PutTails.{drop_made, first_made}
use Rattle.fastlanes_pages.proofs.WrittenColumns.{column_made, shortest_made}
use Rattle.fastlanes_pages.proofs.writing.encode.Goals as goal

pub returns : goal.returns
returns g c =
    let t = g.E.MachineWord.T in
    let lanes = g.E.MachineWord.LANES in
    let values = map g.E.MachineWord.number c.args.values.now in
    let head = c.put_column_head.new.bytes in
    let others = c.write_pages.new.output in
    let n = c.write_pages.result in
    let pages = c.write_pages.ensures.pages in
    let inside : 8 ≤ length head = search rules in
    let first = rw c.T.ensures at c.put_column_head.ensures.head in
    let made = column_made t lanes c.args.checked head others values n inside first pages.0 pages.1 in
    record {
      inside = search rules;
      most = search rules;
      head = subst (IsColumnHead t c.args.checked) (sym (first_made head others 8 inside)) first;
      is = are_column t lanes _ values made;
      values = column_values_are t lanes _ values made;
      shortest = λ page within.
          shortest_made t lanes c.args.checked head others values n inside first pages.0 pages.1 c.args.frames_only pages.2 page (omega (arith, length-map c.args.values.now g.E.MachineWord.number, within));
      minimum = λ only some.
          let many : length values ≡ length c.args.values.now = length-map c.args.values.now g.E.MachineWord.number in
          let count = column_count_is t lanes _ values made in
          heads_tell t c.args.frames_only _ values only (are_column t lanes _ values made) count
          (shortest_made t lanes c.args.checked head others values n inside first pages.0 pages.1 c.args.frames_only pages.2) _ (omega (arith, many, some))
          (ap (λ (v : List ℕ). (length v + 1023) / 1024) (column_values_are t lanes _ values made));
      behind =
          drop_made head others 8 inside n (c.write_pages.ensures.behind ∙ ap (drop n) (between_to_end head 8 (length head) (omega arith)))
          ∙ last_behind head c.args.output.now 8 c.put_column_head.ensures.behind (8 + n) (omega arith);
    }
