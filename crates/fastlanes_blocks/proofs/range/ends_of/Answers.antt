use Rattle.std.proofs.Common.{ℕ, ◌<◌, ◌≤◌, ◌∙◌, arith, sym}
use Rattle.std.proofs.lemmas.List.{get_or-map}
use Rattle.fastlanes_blocks.proofs.Ranges.{first_of_more, first_of_none}
use Rattle.fastlanes_blocks.proofs.range.ends_of.Goals as goal

pub loop-j-init : goal.loop-j-init
loop-j-init g c =
    let number = g.E.MachineWord.number in
    record {
      least = first_of_none (λ x y. x ≤ y) _ _ _ c.requires.some
          (sym (get_or-map number c.lanes_of-low.result 0 _ 0 (omega arith)) ∙ c.lanes_of-low.ensures 0 c.requires.some);
      greatest = first_of_none (λ x y. y ≤ x) _ _ _ c.requires.some
          (sym (get_or-map number c.lanes_of-high.result 0 _ 0 (omega arith)) ∙ c.lanes_of-high.ensures 0 c.requires.some);
    }

pub loop-j-preserved : goal.loop-j-preserved
loop-j-preserved g c =
    let number = g.E.MachineWord.number in
    let j = c.loop-j.j in
    let low = sym (get_or-map number c.lanes_of-low.result j c.index-low-j.result 0 (omega arith)) ∙ c.lanes_of-low.ensures j (omega arith) in
    let high = sym (get_or-map number c.lanes_of-high.result j c.index-high-j.result 0 (omega arith)) ∙ c.lanes_of-high.ensures j (omega arith) in
    record {
      least = first_of_more (λ x y. x ≤ y) (λ a b c p q. omega arith) _ _ _ _ _ (omega arith) (rw low at c.lesser-least.ensures) c.loop-j.invariant.least;
      greatest = first_of_more (λ x y. y ≤ x) (λ a b c p q. omega arith) _ _ _ _ _ (omega arith) (rw high at c.greater-greatest.ensures) c.loop-j.invariant.greatest;
    }

pub returns : goal.returns
returns g c =
    let inside : (j : ℕ) → j < g.V.RowVector.N → j < c.loop-j.j = λ j below. omega arith in
    record {
      least = record { one = c.loop-j.invariant.least.one; before = λ j below. c.loop-j.invariant.least.before j (inside j below) };
      greatest = record { one = c.loop-j.invariant.greatest.one; before = λ j below. c.loop-j.invariant.greatest.before j (inside j below) };
    }
