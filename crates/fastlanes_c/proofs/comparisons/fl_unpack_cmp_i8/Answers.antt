use Rattle.std.proofs.lemmas.Int.{to_z-of_z}
use Rattle.std.specs.Int.{cast_signed, w8}
use Rattle.fastlanes_c.specs.Comparisons.{comparison_of}
use Rattle.fastlanes_c.proofs.Numbers.{compared}
use Rattle.fastlanes_c.proofs.comparisons.fl_unpack_cmp_i8.Goals as goal

pub returns : goal.returns
returns c =
    compared _ _ _ (cast_signed w8) c.numbered.result (comparison_of c.args.comparison) _ c.args.value _ _ c.numbered.ensures (to_z-of_z w8 c.args.value c.ranges.value) c.compare.ensures
