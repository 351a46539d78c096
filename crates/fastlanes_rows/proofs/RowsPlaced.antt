-- Rows of lanes side by side, where they stand in a block.
use Rattle.std.proofs.Common.{◌≡◌, ◌≢◌, ◌⊎◌, ℕ, ◌+◌, ◌-◌, ◌<◌, ◌≤◌, List, refl, ap, subst, sym, ◌∙◌, arith, inl, inr}
use Rattle.std.proofs.lemmas.Bool.{cases_lt}
use Rattle.std.specs.List.{slice_index}
use Rattle.fastlanes_base.specs.Digits.{row_digit}
use Rattle.fastlanes_base.specs.Element.{IsLayout}
use Rattle.fastlanes_base.specs.Order.{lane_at, place, row_at}
use Rattle.fastlanes_base.proofs.Places.{lane_at-place, row_at-place}
use Rattle.fastlanes_rows.specs.Block.{IsFilled, lane_spot}
use Rattle.fastlanes_rows.proofs.RowsStored.{stored_elsewhere}
use Rattle.fastlanes_rows.specs.Rows.{HasRows, IsBesideLanes, IsBesidePlaces, IsStored, UnpacksLanes}

-- neighbouring lanes stand side by side
pub beside_place : (row lane j : ℕ) → place row lane + j ≡ place row (lane + j)
beside_place row lane j = omega arith

-- the rows before it stay, and those of other lanes
pub other_row_stays : (n t lanes lane row other : ℕ) (l : ℕ) (at : ℕ → ℕ) (v q : List ℕ) → IsLayout t lanes → lane + n ≤ lanes → row < t → other < t → l < lanes
    → (other ≢ row) ⊎ IsBesideLanes n lane l
    → IsStored n (place row lane) at v q → slice_index q (place other l) ≡ slice_index v (place other l)
other_row_stays n t lanes lane row other l at v q layout fits in_rows in_others in_lanes apart stored =
    stored_elsewhere n (place row lane) (place other l) at v q stored (λ j within same.
    let e : place other l ≡ place row (lane + j) = same ∙ beside_place row lane j in
    let rows : other ≡ row = sym (row_at-place t lanes other l layout in_others in_lanes) ∙ ap (λ k. row_at lanes k) e ∙ row_at-place t lanes row (lane + j) layout in_rows (omega arith) in
    let lanes_same : l ≡ lane + j = sym (lane_at-place t lanes other l layout in_others in_lanes) ∙ ap (λ k. lane_at lanes k) e ∙ lane_at-place t lanes row (lane + j) layout in_rows (omega arith) in
    elim apart [ inl differ ↦ differ rows | inr outside ↦ elim outside [ inl below ↦ omega arith | inr past ↦ omega arith ] ])

-- one more row
pub rows_more : (n t lanes lane row : ℕ) (at : ℕ → ℕ → ℕ) (value : ℕ → ℕ) (v q : List ℕ) → IsLayout t lanes → lane + n ≤ lanes → row < t
    → IsStored n (place row lane) value v q → HasRows n lane row at v → ((j : ℕ) → j < n → value j ≡ at (lane + j) row) → HasRows n lane (row + 1) at q
rows_more n t lanes lane row at value v q layout fits in_rows stored has is j other within below = elim (cases_lt other row) [
  | inl before ↦
      other_row_stays n t lanes lane row other (lane + j) value v q layout fits in_rows (omega arith) (omega arith) (inl (λ same. omega arith)) stored
      ∙ has j other within before
  | inr last ↦
      let same : other ≡ row = omega arith in
      rw same (ap (slice_index q) (sym (beside_place row lane j)) ∙ stored.here j within ∙ is j within)
]

-- the other lanes stay
pub rows_beside : (n t lanes lane row : ℕ) (value : ℕ → ℕ) (start v q : List ℕ) → IsLayout t lanes → lane + n ≤ lanes → row < t
    → IsStored n (place row lane) value v q → IsBesidePlaces n t lanes lane start v → IsBesidePlaces n t lanes lane start q
rows_beside n t lanes lane row value start v q layout fits in_rows stored beside = record {
  long = stored.long ∙ beside.long;
  others = λ other r in_lanes in_t outside.
      other_row_stays n t lanes lane row r other value v q layout fits in_rows in_t in_lanes (inr outside) stored ∙ beside.others other r in_lanes in_t outside;
}

-- nothing is written yet
pub rows_beside_none : (n t lanes lane : ℕ) (v : List ℕ) → IsBesidePlaces n t lanes lane v v
rows_beside_none n t lanes lane v = record { long = refl; others = λ other r in_lanes in_t outside. refl }

-- all rows are unpacked
pub lanes_unpacked : (n t lanes w lane first : ℕ) (p read v q : List ℕ) → lane ≡ first → read ≡ p → HasRows n lane t (row_digit t lanes w read) q
    → IsBesidePlaces n t lanes lane v q → UnpacksLanes n t lanes w first p v q
lanes_unpacked n t lanes w lane first p read v q same words has beside =
    let there : HasRows n lane t (row_digit t lanes w p) q = subst (λ (l : List ℕ). HasRows n lane t (row_digit t lanes w l) q) words has in
    let digits : HasRows n first t (row_digit t lanes w p) q = subst (λ (k : ℕ). HasRows n k t (row_digit t lanes w p) q) same there in
    let rest : IsBesidePlaces n t lanes first v q = subst (λ (k : ℕ). IsBesidePlaces n t lanes k v q) same beside in
    record { long = rest.long; digits = digits; others = rest.others }

-- the lanes before are filled already
pub group_filled : (n t lanes lane : ℕ) (at : ℕ → ℕ → ℕ) (v q : List ℕ) → lane + n ≤ lanes → HasRows n lane t at q → IsBesidePlaces n t lanes lane v q
    → IsFilled t lane_spot at lane 0 v → IsFilled t lane_spot at (lane + n) 0 q
unfolding IsFilled
group_filled n t lanes lane at v q fits has beside filled = record {
  long = beside.long ∙ filled.long;
  before = λ other row before in_rows. elim (cases_lt other lane) [
    | inl below ↦ beside.others other row (omega arith) in_rows (inl below) ∙ filled.before other row below in_rows
    | inr from ↦
        let there : lane + (other - lane) ≡ other = omega arith in
        rw there at (has (other - lane) row (omega arith) in_rows)
  ];
  here = λ row none. absurd (omega arith);
}
