-- The comparisons of C.
use Rattle.std.specs.Prelude.{ℕ, suc, zero}
use Rattle.fastlanes_blocks.specs.declared.filters.Comparison.{Comparison}
use Rattle.fastlanes_blocks.specs.declared.filters.Comparison.TheVariants.{AtLeast, AtMost, Equal, Greater, Less, NotEqual}

-- a comparison by its number, as `include/fastlanes.h` counts them
abbrev pub comparison_of : ℕ → Comparison
comparison_of zero = Equal
comparison_of (suc zero) = NotEqual
comparison_of (suc (suc zero)) = Less
comparison_of (suc (suc (suc zero))) = AtMost
comparison_of (suc (suc (suc (suc zero)))) = Greater
comparison_of (suc (suc (suc (suc (suc _))))) = AtLeast
