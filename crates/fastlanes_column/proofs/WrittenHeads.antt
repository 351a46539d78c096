-- Heads that are written one after another.
use Rattle.std.proofs.Common.{◌≡◌, ◌≢◌, ℕ, ◌+◌, ◌^◌, ◌<◌, ◌≤◌, List, length, set, arith, below_more, get_or-set_other, get_or-set_same}
use Rattle.std.proofs.lemmas.List.{length-map, map-set}
use Rattle.std.specs.List.{All, slice_index}
use Rattle.fastlanes.specs.Frame.{word_difference}
use Rattle.fastlanes_column.specs.Column.{block_at}
use Rattle.fastlanes_column.specs.Heads.{references, widths}
use Rattle.fastlanes_column.specs.LeastWidth.{IsNarrowestHead}
use Rattle.fastlanes_column.specs.declared.frame.FrameHead.{FrameHead}

-- a width and a reference serve a block of elements of t bits
pub record Serves (t w reference : ℕ) (block : List ℕ) : Type 0 where
  pub fits : w ≤ t
  pub near : All (λ x. word_difference t x reference < 2 ^ w) block
  pub narrowest : IsNarrowestHead reference w block

-- those of the first n blocks do
abbrev pub ServeBelow : ℕ → ℕ → List ℕ → List ℕ → List (List ℕ) → Type 0
ServeBelow t n ws rs blocks = (b : ℕ) → b < n → Serves t (slice_index ws b) (slice_index rs b) (block_at blocks b)

-- one more head is written
pub serve_more : {X Y : Type 0} (number : X → ℕ) (t b : ℕ) (heads : List (FrameHead X Y)) (head : FrameHead X Y) (blocks : List (List ℕ)) → b < length heads
    → ServeBelow t b (widths heads) (references number heads) blocks → Serves t head.width (number head.reference) (block_at blocks b)
    → ServeBelow t (b + 1) (widths (set heads b head)) (references number (set heads b head)) blocks
serve_more number t b heads head blocks inside before here =
    let ws : widths (set heads b head) ≡ set (widths heads) b head.width = map-set (λ h. h.width) heads b head in
    let rs : references number (set heads b head) ≡ set (references number heads) b (number head.reference) = map-set (λ h. number h.reference) heads b head in
    rw (ws, rs) (below_more _ _
    (λ c below.
    let other : c ≢ b = omega arith in
    rw (get_or-set_other (widths heads) b c head.width 0 other, get_or-set_other (references number heads) b c (number head.reference) 0 other) (before c below))
    (let in_widths : b < length (widths heads) = rw length-map inside in
    let in_references : b < length (references number heads) = rw length-map inside in
    rw (get_or-set_same (widths heads) b head.width 0 in_widths, get_or-set_same (references number heads) b (number head.reference) 0 in_references) here))
