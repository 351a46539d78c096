use Rattle.std.proofs.Common.{◌≡◌, ◌+◌, ◌-◌, ap, arith, inl, inr, sym, ◌∙◌}
use Rattle.fastlanes.specs.Rows.{words_begun}
use Rattle.fastlanes.proofs.Callers.{words_begun_next}
use Rattle.callers.proofs.Rows.{begun_first, begun_last, carries_first}
use Rattle.callers.proofs.lane_rows.last_words.Goals as goal

pub loop-row-init : goal.loop-row-init
loop-row-init g c =
    let t = g.E.FastLanes.T in
    let none = begun_first t c.args.width (omega (arith, g.met.E.FastLanes.bits_law)) in (
      c.new-words.ensures ∙ ap (λ n. record { words = c.args.packed.now; width = c.args.width; lane = 0; count = n }) none,
      carries_first _ _ _ _ _ _ _,
      λ some. absurd (omega (arith, none, some)),
    )

pub loop-row-preserved : goal.loop-row-preserved
loop-row-preserved g c =
    let step = c.unpack_row_from-digits.ensures in
    let begun = words_begun g.E.FastLanes.T c.args.width in
    let row = c.loop-row.row in
    let old = c.loop-row.invariant in
    let before : c.loop-row.words.count ≡ begun row = ap (λ s. s.count) old.0 in
    let after : c.unpack_row_from-digits.new.words.count ≡ begun (row + 1) = ap (λ s. s.count) step.taken in (
      rw old.0 at step.taken,
      rw old.0 at step.carry.carried,
      λ some j within. elim (words_begun_next g.E.FastLanes.T c.args.width row c.requires.some c.requires.width) [
        | inl same ↦
            let kept = step.carry.keeps (after ∙ same ∙ sym before) in
            rw (same, kept) (old.2 (rw same at some) j within)
        | inr rises ↦
            let last : begun (row + 1) - 1 ≡ begun row = omega (arith, rises) in
            rw last (rw old.0 at (step.carry.takes (omega (arith, before, after, rises)) j within))
      ],
    )

pub returns : goal.returns
returns g c =
    let all : words_begun g.E.FastLanes.T c.args.width c.loop-row.row ≡ c.args.width = begun_last _ _ _ (omega (arith, g.met.E.FastLanes.bits_law)) (omega arith) in
    (rw all at c.loop-row.invariant.2) c.requires.some
