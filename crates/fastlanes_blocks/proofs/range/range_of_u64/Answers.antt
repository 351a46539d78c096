use Rattle.std.proofs.Common.{arith, lit<, lit≤, refl, subst}
use Rattle.std.proofs.lemmas.List.{map-id}
use Rattle.fastlanes_base.proofs.Places.{layout_64}
use Rattle.fastlanes_base.specs.Digits.{digits}
use Rattle.fastlanes_blocks.specs.Ranges.{IsGreatest, IsLeast}
use Rattle.fastlanes_rows.specs.Rows.{MakesGroups}
use Rattle.fastlanes_blocks.proofs.Ranges.{greatest_of_digits, least_of_digits}
use Rattle.fastlanes_blocks.proofs.range.range_of_u64.Goals as goal

groups : MakesGroups 16 8
groups = (lit< tt, lit≤ tt, refl)

pub returns-then-width-le32-clause-least : goal.returns-then-width-le32-clause-least
returns-then-width-le32-clause-least c =
    let is = least_of_digits 32 64 8 16 _ _ _ _ layout_64 groups c.if-width-le32.true (c.fold_block-range.ensures.0 c.if-width-le32.true).0 c.ends_of-least.ensures.least in
    rw c.from.ensures (subst (λ p. IsLeast c.ends_of-least.result.0 (digits 64 16 c.args.width p)) (map-id c.args.packed.now) is)

pub returns-then-width-le32-clause-greatest : goal.returns-then-width-le32-clause-greatest
returns-then-width-le32-clause-greatest c =
    let is = greatest_of_digits 64 8 16 _ _ _ _ layout_64 groups (c.fold_block-range.ensures.0 c.if-width-le32.true).1 c.ends_of-least.ensures.greatest in
    rw c.from-then-width-le32.ensures (subst (λ p. IsGreatest c.ends_of-least.result.1 (digits 64 16 c.args.width p)) (map-id c.args.packed.now) is)

pub returns-else-width-le32-clause-least : goal.returns-else-width-le32-clause-least
returns-else-width-le32-clause-least c =
    subst (λ p. IsLeast c.ends_of.result.0 (digits 64 16 c.args.width p)) (map-id c.args.packed.now) (least_of_digits 64 64 8 16 _ _ _ _ layout_64 groups c.requires.width (c.fold_block-range.ensures.1 (omega (arith, c.if-width-le32.false))).0 c.ends_of.ensures.least)

pub returns-else-width-le32-clause-greatest : goal.returns-else-width-le32-clause-greatest
returns-else-width-le32-clause-greatest c =
    subst (λ p. IsGreatest c.ends_of.result.1 (digits 64 16 c.args.width p)) (map-id c.args.packed.now) (greatest_of_digits 64 8 16 _ _ _ _ layout_64 groups (c.fold_block-range.ensures.1 (omega (arith, c.if-width-le32.false))).1 c.ends_of.ensures.greatest)
