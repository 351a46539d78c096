use Rattle.std.proofs.Common.{pos, refl}
use Rattle.fastlanes_c.specs.Comparisons.{comparison_of}
use Rattle.fastlanes_c.proofs.Numbers.{compared}
use Rattle.fastlanes_c.proofs.comparisons.fl_unpack_cmp_u64.Goals as goal

pub returns : goal.returns
returns c =
    compared _ _ _ pos c.numbered.result (comparison_of c.args.comparison) _ (pos c.args.value) _ _ c.numbered.ensures refl c.compare.ensures
