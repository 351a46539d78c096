-- Rows of lanes side by side, packed to words.
use Rattle.std.proofs.Common.{◌≡◌, ℕ, ◌+◌, ◌-◌, ◌*◌, ◌/◌, ◌%◌, ◌^◌, ◌<◌, ◌≤◌, List, map, refl, ap, subst, sym, ◌∙◌, arith, inl, inr}
use Rattle.std.proofs.Math.Nat.{mul-div_cancel_left, mul-le-mul_left}
use Rattle.std.proofs.lemmas.Bool.{cases_lt}
use Rattle.std.proofs.lemmas.List.{length-map}
use Rattle.std.proofs.lemmas.Nat.{mod-mul-add, shr_below}
use Rattle.std.specs.List.{slice_index}
use Rattle.fastlanes_base.specs.Counted.{Written}
use Rattle.fastlanes_base.specs.Element.{IsWordSize}
use Rattle.fastlanes_rows.specs.Block.{IsHeld, row_value}
use Rattle.fastlanes_rows.specs.Row.{with_row}
use Rattle.fastlanes_rows.specs.Rows.{HasLanes, HoldsGroup, IsBesideWords, PacksLanes, PacksRow}
use Rattle.fastlanes_rows.proofs.Numbers.{row_below, same_digits}
use Rattle.fastlanes_rows.proofs.RowsStored.{stored_elsewhere}
use Rattle.fastlanes_rows.proofs.PackedRows.{held_all, held_filled, held_none, held_stays, next_fills, next_stays}

-- the bits that are left after a row, where it fills no word
pub left_below_stays : (t w row carry value rest : ℕ) → row * w % t + w < t → carry < 2 ^ (row * w % t)
    → rest ≡ with_row t w row carry value → rest < 2 ^ ((row + 1) * w % t)
left_below_stays t w row carry value rest room below is = rw (is, (next_stays t w row room).1) (row_below (row * w % t) w carry value below)

-- the same, where it fills one
pub left_below_fills : (t w row carry value rest : ℕ) → 0 < t → w ≤ t → t ≤ row * w % t + w → carry < 2 ^ (row * w % t)
    → rest ≡ with_row t w row carry value / 2 ^ t → rest < 2 ^ ((row + 1) * w % t)
left_below_fills t w row carry value rest z narrow full below is =
    let low : row * w % t + w ≡ (row * w % t + w - t) + t = omega arith in
    rw (is, (next_fills t w row z narrow full).1) (shr_below (with_row t w row carry value) (row * w % t + w - t) t (rw (← low) (row_below (row * w % t) w carry value below)))

-- one more row, whether or not it fills a word
pub rows_held : {X : Type 0} (n t lanes w lane row : ℕ) (number : X → ℕ) (at : ℕ → ℕ → ℕ) (value carry rest : ℕ → ℕ) (s u : Written X)
    → 0 < t → w ≤ t → lane + n ≤ lanes → PacksRow n t lanes w row number carry value rest s u
    → HoldsGroup n t lanes w lane row number at s carry → HasLanes n value (λ j. at (lane + j) row)
    → HoldsGroup n t lanes w lane (row + 1) number at u rest
rows_held n t lanes w lane row number at value carry rest s u z narrow fits packs held is = elim (cases_lt (row * w % t + w) t) [
  | inl room ↦
      let (same, left) = packs.stays room in
      record {
        same_width = ap (λ x. x.width) same ∙ held.same_width;
        same_lane = ap (λ x. x.lane) same ∙ held.same_lane;
        count = ap (λ x. x.count) same ∙ held.count ∙ sym (next_stays t w row room).0;
        holds = λ j within.
            rw same (held_stays t lanes w (lane + j) row (at (lane + j)) (map number s.words) (carry j) (rest j) (value j) (sym (is j within)) room (left j within) (held.holds j within));
      }
  | inr full ↦
      let put = packs.fills full in
      let first : lanes * (row * w / t) + s.lane ≡ lanes * (row * w / t) + lane = ap (λ k. lanes * (row * w / t) + k) held.same_lane in
      let stored = rw first at put.stored in
      record {
        same_width = ap (λ x. x.width) put.step ∙ held.same_width;
        same_lane = ap (λ x. x.lane) put.step ∙ held.same_lane;
        count = ap (λ x. x.count) put.step ∙ sym (next_fills t w row z narrow full).0;
        holds = λ j within.
            let place : lanes * (row * w / t) + lane + j ≡ lanes * (row * w / t) + (lane + j) = omega arith in
            held_filled t lanes w (lane + j) row (at (lane + j)) (map number s.words) (map number u.words) (carry j) (rest j) (value j) z narrow (sym (is j within)) full
            (ap (slice_index (map number u.words)) (sym place) ∙ stored.here j within)
            (λ k before.
            let below : lanes * (k + 1) ≤ lanes * (row * w / t) = mul-le-mul_left lanes (omega arith) in
            stored.before (lanes * k + (lane + j)) (omega arith))
            (put.left j within) (held.holds j within);
      }
]

-- the words of the other lanes stay
pub words_beside : {X : Type 0} (n t lanes w lane row : ℕ) (number : X → ℕ) (value carry rest : ℕ → ℕ) (start s u : Written X)
    → lane + n ≤ lanes → PacksRow n t lanes w row number carry value rest s u → s.lane ≡ lane
    → IsBesideWords n lanes lane number start s → IsBesideWords n lanes lane number start u
words_beside n t lanes w lane row number value carry rest start s u fits packs same beside = elim (cases_lt (row * w % t + w) t) [
  | inl room ↦ rw (packs.stays room).0 beside
  | inr full ↦
      let put = packs.fills full in
      let new : u ≡ record start { words = u.words; count = row * w / t + 1 } = put.step ∙ (λ i. record (beside.same i) { words = u.words; count = row * w / t + 1 }) in
      record {
        same = new ∙ ap (λ k. record start { words = u.words; count = k }) (sym (ap (λ x. x.count) new));
        long = rw (length-map, length-map) at put.stored.long ∙ beside.long;
        others = λ k outside.
            stored_elsewhere n (lanes * (row * w / t) + s.lane) k _ (map number s.words) (map number u.words) put.stored (λ j within is.
            let turn : lanes * (row * w / t) + s.lane + j ≡ row * w / t * lanes + (lane + j) = omega (arith, same) in
            let lane_of_it : k % lanes ≡ lane + j = ap (λ x. x % lanes) (is ∙ turn) ∙ mod-mul-add (row * w / t) lanes (lane + j) (omega arith) in
            elim outside [ inl below ↦ omega arith | inr past ↦ omega arith ])
            ∙ beside.others k outside;
      }
]

-- nothing is written yet
pub words_beside_none : {X : Type 0} (n lanes lane : ℕ) (number : X → ℕ) (s : Written X) → IsBesideWords n lanes lane number s s
words_beside_none n lanes lane number s = record { same = refl; long = refl; others = λ k outside. refl }

-- all rows are packed
pub lanes_packed : {X : Type 0} (n t lanes w lane : ℕ) (number : X → ℕ) (v : List ℕ) (carry : ℕ → ℕ) (s u : Written X) → 0 < t → lane ≡ s.lane
    → HoldsGroup n t lanes w lane t number (row_value v) u carry → IsBesideWords n lanes lane number s u → PacksLanes n t lanes w number v s u
lanes_packed {X} n t lanes w lane number v carry s u z same held beside =
    let all : HoldsGroup n t lanes w s.lane t number (row_value v) u carry = subst (λ (k : ℕ). HoldsGroup n t lanes w k t number (row_value v) u carry) same held in
    let rest : IsBesideWords n lanes s.lane number s u = subst (λ (k : ℕ). IsBesideWords n lanes k number s u) same beside in
    record {
      packed = λ j within. held_all t lanes w (s.lane + j) (row_value v (s.lane + j)) (map number u.words) (carry j) z (all.holds j within);
      others = rest.others;
      long = rest.long;
      step = rest.same ∙ ap (λ k. record s { words = u.words; count = k }) (all.count ∙ mul-div_cancel_left w z);
    }

-- the lanes before are packed already
pub group_held : {X : Type 0} (n t lanes w lane : ℕ) (number : X → ℕ) (at : ℕ → ℕ → ℕ) (carry : ℕ → ℕ) (s u : Written X) → IsWordSize t → lane + n ≤ lanes
    → HoldsGroup n t lanes w lane t number at u carry → IsBesideWords n lanes lane number s u
    → IsHeld t lanes w at lane 0 (map number s.words) 0 → IsHeld t lanes w at (lane + n) 0 (map number u.words) 0
unfolding IsHeld
group_held n t lanes w lane number at carry s u size fits all beside held =
    let z : 0 < t = omega (arith, size) in
    record {
      long = length-map u.words number ∙ beside.long ∙ sym (length-map s.words number) ∙ held.long;
      before = λ other before. elim (cases_lt other lane) [
        | inl below ↦
            same_digits t _ _ w (λ k h.
            let turn : lanes * k + other ≡ k * lanes + other = omega arith in
            let lane_of_it : (lanes * k + other) % lanes ≡ other = rw turn (mod-mul-add k lanes other (omega arith)) in
            ap (λ (y : ℕ). y % 2 ^ t) (beside.others (lanes * k + other) (inl (rw lane_of_it below))))
            ∙ held.before other below
        | inr from ↦
            let there : lane + (other - lane) ≡ other = omega arith in
            rw there at (held_all t lanes w (lane + (other - lane)) (at (lane + (other - lane))) (map number u.words) (carry (other - lane)) z (all.holds (other - lane) (omega arith)))
      ];
      here = held_none t lanes w (lane + n) (at (lane + n)) (map number u.words) 0 z refl;
    }
