-- An end that bytes follow, as it was read.
use Rattle.std.proofs.Common.{◌≡◌, ℕ, ◌+◌, ◌<◌, ◌≤◌, ◌⊎◌, ◌++◌, ◌∙◌, Bool, List, [], ap, arith, inl, inr, length, refl, subst, sym, take}
use Rattle.std.proofs.Math.Seq.{take-append_seam}
use Rattle.std.proofs.lemmas.Bool.{cases_lt}
use Rattle.std.proofs.lemmas.List.{append-nil, length-append}
use Rattle.fastlanes_format.proofs.NumberPlaces.{number_at-append}
use Rattle.fastlanes_format.specs.Format.{IsEnd, head_len, longest_page, number_at}
use Rattle.fastlanes_column_streams.specs.Refusals.{AreNoPages, IsRefusal, LacksRoom, Refuses}
use Rattle.fastlanes_column_streams.specs.declared.error.StreamError.{StreamError}
use Rattle.fastlanes_column_streams.specs.declared.error.StreamError.TheVariants.{ReadFailed, Refused, ShortValue, TooMany, WriteFailed}
use Rattle.fastlanes_format.specs.declared.flaw.Flaw.{Flaw}

module _ (checked : Bool) (before : ℕ) (end rest head left : List ℕ) (is : IsEnd checked before end) (same : end ++ rest ≡ head ++ left) where
  -- its length is where it is read
  len_is : number_at 4 (head ++ left) 8 ≡ 8
  len_is = ap (λ b. number_at 4 b 8) (sym same) ∙ number_at-append 4 end rest 8 (omega (arith, is.whole)) ∙ is.len

  pub declared : head_len (head ++ left) ≡ 24
  declared = omega (arith, len_is)

  -- as many bytes as the head says are the end
  pub is_the_end : length head ≤ head_len head → (length head < head_len head → left ≡ []) → head ≡ end
  is_the_end no_more ended = elim (cases_lt (length head) 24) [
    | inl short ↦
        let few : length head < head_len head = elim (cases_lt (length head) 16) [
          | inl less ↦ omega (arith, less)
          | inr more ↦ let stays = number_at-append 4 head left 8 (omega (arith, more)) in omega (arith, short, stays, len_is)
        ] in
        let none : length left ≡ 0 = ap length (ended few) in
        let all : length (end ++ rest) ≡ length (head ++ left) = ap length same in
        absurd (omega (arith, short, none, all, is.whole, length-append end rest, length-append head left))
    | inr long ↦
        let stays = number_at-append 4 head left 8 (omega (arith, long)) in
        let many : length head ≡ 24 = omega (arith, long, no_more, stays, len_is) in
        sym (take-append_seam head left) ∙ ap (take (length head)) (sym same) ∙ ap (λ n. take n (end ++ rest)) (many ∙ sym is.whole) ∙ take-append_seam end rest
  ]

  -- so it is not refused before what follows it
  pub not_refused : (bits : ℕ) → length head ≤ head_len head → (length head < head_len head → left ≡ [])
      → ((others : List ℕ) → (length head < head_len head → others ≡ []) → AreNoPages bits checked before (head ++ others)) → ⊥
  not_refused bits no_more ended none =
      let found : head ++ [] ≡ end = append-nil head ∙ is_the_end no_more ended in
      none [] (λ few. refl) [] (subst (IsEnd checked before) (sym found) is)

-- a read of what declares to be an end refuses nothing
pub only_fails : (bits room : ℕ) (bytes : List ℕ) (flaw : Flaw) (at : ℕ) (e : StreamError) → head_len bytes ≡ 24 → 24 ≤ room
    → Refuses e ((longest_page bits < head_len bytes) ⊎ LacksRoom bits room bytes) → IsRefusal flaw at e
only_fails bits room bytes flaw at (Refused error) len most why = elim why [ inl long ↦ absurd (omega (arith, long, len)) | inr lacks ↦ absurd (omega (arith, lacks.0, len, most)) ]
only_fails bits room bytes flaw at ReadFailed len most why = tt
only_fails bits room bytes flaw at (ShortValue count) len most why = why
only_fails bits room bytes flaw at TooMany len most why = why
only_fails bits room bytes flaw at WriteFailed len most why = why
