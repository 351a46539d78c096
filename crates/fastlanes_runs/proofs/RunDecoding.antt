-- The decoding of a block, some places after others.
use Rattle.std.proofs.Common.{◌≡◌, ◌↔◌, ◌&&◌, ℕ, ◌+◌, ◌<◌, ◌≤◌, Bool, IsTrue, List, Some, length, map, nat_eq, set, sym, ◌∙◌, inl, inr, below_more, arith, slice_get, slice_index}
use Rattle.std.proofs.lemmas.Bool.{and_from, and_parts, cases_lt, eq-eqb, eqb-true}
use Rattle.std.proofs.lemmas.List.{length-map}
use Rattle.std.proofs.lemmas.List.Elements.{All-get_or, All-map}
use Rattle.std.specs.List.{All}
use Rattle.fastlanes_runs.specs.RunSteps.{DecodesPlaces}
use Rattle.fastlanes_runs.proofs.RunEncoding.{slice_get-set_other, slice_get-set_same}

-- an index names an entry where all do
pub names_entry : {I : Type 0} (place : I → ℕ) (idxs : List I) (entries i : ℕ) → All (λ index. place index < entries) idxs → i < length idxs
    → slice_index (map place idxs) i < entries
names_entry place idxs entries i named within =
    All-get_or (λ at. at < entries) (map place idxs) i 0 (rw length-map within) (All-map (λ at. at < entries) place idxs named)

module _ {V : Type 0} {idxs : List ℕ} {vals old mid : List V} {from to : ℕ} where
  -- the entry of one place more
  pub decodes_next : {next : ℕ} (value : V) → DecodesPlaces idxs vals from to old mid → from ≤ to → to < length mid → next ≡ to + 1
      → slice_get vals (slice_index idxs to) ≡ Some value → DecodesPlaces idxs vals from next old (set mid to value)
  decodes_next value so_far order within is_next entry =
      rw is_next record {
        entries = λ i above below. below_more (λ i. from ≤ i → slice_get (set mid to value) i ≡ slice_get vals (slice_index idxs i)) to
            (λ i less above. slice_get-set_other mid to i value (λ same. omega (arith, same, less)) ∙ so_far.entries i above less)
            (λ above. slice_get-set_same mid to value within ∙ sym entry) i below above;
        below = λ i below. slice_get-set_other mid to i value (λ same. omega (arith, same, below, order)) ∙ so_far.below i below;
      }

  -- more places, decoded after these
  pub decodes_more : {more : ℕ} {new : List V} → DecodesPlaces idxs vals from to old mid → from ≤ to → DecodesPlaces idxs vals to more mid new
      → DecodesPlaces idxs vals from more old new
  decodes_more so_far order then =
      record {
        entries = λ i above below. elim (cases_lt i to) [
          | inl less ↦ then.below i less ∙ so_far.entries i above less
          | inr more ↦ then.entries i more below
        ];
        below = λ i below. then.below i (omega (arith, below, order)) ∙ so_far.below i below;
      }

-- whether one index more, too, names the entry that the indexes before it name
pub one_run-more : (idxs : List ℕ) (all : Bool) (from i place : ℕ) → from ≤ i
    → (IsTrue all ↔ ((k : ℕ) → from ≤ k → k < i → slice_index idxs k ≡ place))
    → (IsTrue (all && nat_eq (slice_index idxs i) place) ↔ ((k : ℕ) → from ≤ k → k < i + 1 → slice_index idxs k ≡ place))
one_run-more idxs all from i place order so_far = (
  λ same. let parts = and_parts all (nat_eq (slice_index idxs i) place) same in
      λ k above below. below_more (λ k. from ≤ k → slice_index idxs k ≡ place) i (λ k less above. so_far.0 parts.0 k above less) (λ above. eqb-true _ _ parts.1) k below above,
  λ each. and_from all _ (so_far.1 (λ k above below. each k above (omega (arith, below)))) (eq-eqb _ _ (each i order (omega arith))),
)
