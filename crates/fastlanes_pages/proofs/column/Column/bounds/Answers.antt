use Rattle.std.proofs.Common.{◌≡◌, ◌+◌, ◌*◌, ◌≤◌, All, ap, arith, max, min, rules, suc, subst, sym, ◌∙◌}
use Rattle.std.proofs.lemmas.List.{take_all}
use Rattle.fastlanes_pages.proofs.ColumnParts.{all_more}
use Rattle.fastlanes_pages.proofs.FrameWords.{word_is}
use Rattle.fastlanes_pages.specs.ColumnValues.{column_values}
use Rattle.fastlanes_pages.specs.Heads.{heads_greatest, heads_least}
use Rattle.fastlanes_pages.proofs.column.Column.bounds.Goals as goal

pub parts-init : goal.parts-init
parts-init g c = record {
  least_is = word_is g.E.MachineWord.T _ _ _ c.zero.ensures c.one.ensures c.minus.ensures.value;
  greatest_is = c.zero-2.ensures;
  least = search rules;
  greatest = search rules;
}

pub parts-preserved : goal.parts-preserved
parts-preserved g c =
    let l = c.parts in
    let values = column_values g.E.MachineWord.T g.E.MachineWord.LANES c.args.self.now in
    let number = g.E.MachineWord.number in
    let bounds = c.wider-bounds.result in
    let wider = c.wider-bounds.ensures in
    let least = rw (ap (λ b. b.values) c.block.ensures) at c.bounds-more.ensures.least in
    let greatest = rw (ap (λ b. b.values) c.block.ensures) at c.bounds-more.ensures.greatest in
    let t = g.E.MachineWord.T in
    let bytes = c.args.self.now in
    let more = c.bounds-more.result in
    let head = ap (λ b. b.head) c.block.ensures in
    let least_here = rw head at c.bounds-more.ensures.least_is in
    let greatest_here = rw head at c.bounds-more.ensures.greatest_is in
    let after : l.number + 1 ≡ suc l.number = omega arith in
    record {
      least_is = wider.least ∙ ap (λ n. min n (number more.0)) l.invariant.least_is ∙ ap (min (heads_least t bytes l.number)) least_here ∙ sym (ap (heads_least t bytes) after);
      greatest_is =
          wider.greatest ∙ ap (λ n. max n (number more.1)) l.invariant.greatest_is ∙ ap (max (heads_greatest t bytes l.number)) greatest_here
          ∙ sym (ap (heads_greatest t bytes) after);
      least = all_more (λ x. number bounds.0 ≤ x) values l.number (λ k d below. omega (arith, l.invariant.least k d below, wider.least))
          (λ k d below. omega (arith, least k d below, wider.least));
      greatest = all_more (λ x. x ≤ number bounds.1) values l.number (λ k d below. omega (arith, l.invariant.greatest k d below, wider.greatest))
          (λ k d below. omega (arith, greatest k d below, wider.greatest));
    }

pub returns-clause-least : goal.returns-clause-least
returns-clause-least g c =
    let l = c.parts in
    subst (All (λ x. g.E.MachineWord.number l.bounds.0 ≤ x)) (take_all (1024 * l.number) (column_values g.E.MachineWord.T g.E.MachineWord.LANES c.args.self.now) (omega (arith, c.blocks-number-end.ensures))) l.invariant.least

pub returns-clause-greatest : goal.returns-clause-greatest
returns-clause-greatest g c =
    let l = c.parts in
    subst (All (λ x. x ≤ g.E.MachineWord.number l.bounds.1)) (take_all (1024 * l.number) (column_values g.E.MachineWord.T g.E.MachineWord.LANES c.args.self.now) (omega (arith, c.blocks-number-end.ensures))) l.invariant.greatest
