use Rattle.std.proofs.Common.{◌≡◌, arith, refl, rules, subst, sym}
use Rattle.fastlanes_format.specs.Format.{IsColumnHead}
use Rattle.fastlanes_format.proofs.head.put_column_head.Goals as goal
use Rattle.fastlanes_format.proofs.head.put_column_head.Goals.{else-checked, then-checked}

pub returns-clause-head : goal.returns-clause-head
returns-clause-head c =
    let all : c.loop-i.i ≡ 8 = omega arith in
    let same = rw all at c.loop-i.invariant.bytes in
    subst (IsColumnHead c.args.bits c.args.checked) (sym same) (record {
      whole = refl;
      name = refl;
      size = c.requires.size;
      element = refl;
      checks = elim c.if-checked.branch [ then-checked w ↦ search rules | else-checked w ↦ search rules ];
      spare = refl;
    })
