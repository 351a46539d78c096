-- What calls promise of the numbers of elements, where an element is its own number.
use Rattle.std.proofs.Common.{◌≡◌, ℕ, ℤ, Bool, List, map}
use Rattle.std.proofs.lemmas.List.{map-id}
use Rattle.fastlanes.specs.Delta.{deltas}
use Rattle.fastlanes.specs.Digits.{IsPacked, digit}
use Rattle.fastlanes.specs.Frame.{framed}
use Rattle.fastlanes.specs.Mask.{IsLaneMask, IsPlaceMask}
use Rattle.fastlanes.specs.Transposition.{transposed}
use Rattle.fastlanes_blocks.specs.Blocks.{UnpacksBlocks}
use Rattle.fastlanes_blocks.specs.Comparisons.{Tells, holds}
use Rattle.fastlanes_blocks.specs.declared.filters.Comparison.{Comparison}
use Rattle.fastlanes_pages.specs.Encoded.{page_part}
use Rattle.fastlanes_pages.specs.Shortest.{HasShortestBlocks}

pub packed : (t lanes w : ℕ) (v p : List ℕ) → IsPacked t lanes w (map (λ x. x) v) (map (λ x. x) p) → IsPacked t lanes w v p
packed t lanes w v p is = rw (map-id v, map-id p) at is

pub packed_frame : (t lanes w reference : ℕ) (v p : List ℕ) → IsPacked t lanes w (framed t reference (map (λ x. x) v)) (map (λ x. x) p)
    → IsPacked t lanes w (framed t reference v) p
packed_frame t lanes w reference v p is = rw (map-id v, map-id p) at is

pub packed_deltas : (t lanes w : ℕ) (base v p : List ℕ)
    → IsPacked t lanes w (deltas t lanes (map (λ x. x) base) (transposed (map (λ x. x) v))) (map (λ x. x) p)
    → IsPacked t lanes w (deltas t lanes base (transposed v)) p
packed_deltas t lanes w base v p is = rw (map-id base, map-id v, map-id p) at is

pub unpacked_blocks : (t lanes w count : ℕ) (p v : List ℕ) → UnpacksBlocks t lanes w count (map (λ x. x) p) (map (λ x. x) v)
    → UnpacksBlocks t lanes w count p v
unpacked_blocks t lanes w count p v is = rw (map-id p, map-id v) at is

-- a value of a signed type is the integer that its bits represent
pub compared : (t lanes w : ℕ) (integer : ℕ → ℤ) (numbered comparison : Comparison) (value same : ℤ) (p m : List ℕ)
    → numbered ≡ comparison → value ≡ same
    → IsLaneMask t lanes (Tells integer (holds numbered) value) (digit t lanes w (map (λ x. x) p)) m
    → IsLaneMask t lanes (Tells integer (holds comparison) same) (digit t lanes w p) m
compared t lanes w integer numbered comparison value same p m number equal is = rw (number, equal, map-id p) at is

pub filtered : (t lanes w : ℕ) (integer : ℕ → ℤ) (numbered comparison : Comparison) (value same : ℤ) (p m : List ℕ)
    → numbered ≡ comparison → value ≡ same
    → IsPlaceMask (Tells integer (holds numbered) value) (digit t lanes w (map (λ x. x) p)) m
    → IsPlaceMask (Tells integer (holds comparison) same) (digit t lanes w p) m
filtered t lanes w integer numbered comparison value same p m number equal is = rw (number, equal, map-id p) at is

pub shortest : (t : ℕ) (frames_only : Bool) (bytes v : List ℕ) (page : ℕ) → HasShortestBlocks t frames_only bytes (page_part (map (λ x. x) v) page)
    → HasShortestBlocks t frames_only bytes (page_part v page)
shortest t frames_only bytes v page is = rw (map-id v) at is
