-- How many bytes a word has.
use Rattle.std.proofs.Common.{ℕ, ◌/◌, ◌<◌, arith, inl, inr}
use Rattle.fastlanes_base.specs.Element.{IsWordSize}

-- at least one
pub word_some : (t : ℕ) → IsWordSize t → 0 < t / 8
word_some t size = elim size [ inl is ↦ omega (arith, is) | inr more ↦ elim more [ inl is ↦ omega (arith, is) | inr most ↦ elim most [ inl is ↦ omega (arith, is) | inr is ↦ omega (arith, is) ] ] ]
