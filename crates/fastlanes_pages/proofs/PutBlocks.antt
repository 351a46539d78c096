-- A block that is put into a page: first its head, and then its bytes.
use Rattle.std.proofs.Common.{◌≡◌, ℕ, ◌+◌, ◌-◌, ◌*◌, ◌^◌, ◌<◌, ◌≤◌, ◌∙◌, Bool, List, ap, arith, drop, false, length, refl, subst, suc, sym, take, true}
use Rattle.std.proofs.lemmas.Slice.{between-put_mid, between_is, drop-put_mid, take-put_mid_below}
use Rattle.std.specs.Int.{from_bool}
use Rattle.std.specs.List.{between}
use Rattle.std.specs.Prelude.{if◌then◌else◌}
use Rattle.fastlanes_format.specs.Format.{IsBlockHead, block_bytes, block_len, block_place, form_of, head_of, number_at, reference_of, width_of}
use Rattle.fastlanes_format.proofs.HeadsKept.{form_kept, head_kept, place_kept, reference_kept, width_kept}
use Rattle.fastlanes_format.proofs.NumbersKept.{last_behind}
use Rattle.fastlanes_pages.specs.Values.{AreDifferences, HoldsBlock, IsFrame, PutsBlock}
use borrow.Rule.Slice.PartMut.{put_mid}

-- a form as a number
pub form_number : (differences : Bool) → from_bool differences ≡ (if differences then 1 else 0)
form_number true = refl
form_number false = refl

-- what the first byte of its head says
is_frame : (differences : Bool) (form : ℕ) → form ≡ (if differences then 1 else 0) → form ≡ 0 → differences ≡ false
is_frame true form is none = absurd (omega (arith, is, none))
is_frame false form is none = refl

are_sums : (differences : Bool) (form : ℕ) → form ≡ (if differences then 1 else 0) → form ≡ 1 → differences ≡ true
are_sums true form is one = refl
are_sums false form is one = absurd (omega (arith, is, one))

form_most : (differences : Bool) (form : ℕ) → form ≡ (if differences then 1 else 0) → form ≤ 1
form_most true form is = omega (arith, is)
form_most false form is = omega (arith, is)

module _ (t lanes : ℕ) (old mid bytes : List ℕ) (number start stop : ℕ) (differences : Bool) (bits reference : ℕ) (values : List ℕ) where
  abbrev made : List ℕ
  made = put_mid start (stop - start) mid bytes

  -- what is so of a page with this block
  pub record HasBlock : Type 0 where
    pub put : PutsBlock t old made number start stop
    pub form : form_of made number ≡ (if differences then 1 else 0)
    pub width : width_of made number ≡ bits
    pub own_reference : reference_of made number ≡ reference
    pub own_bytes : block_bytes made number ≡ bytes
    pub holds : HoldsBlock t lanes made number values

  module _ (ends : stop ≡ start + 128 * ((if differences then 1 else 0) + bits)) (inside : stop ≤ length mid) (long : length bytes ≡ stop - start)
      (heads : head_of (number + 1) ≤ start) (at : start ≡ block_place old number) (form_is : form_of mid number ≡ (if differences then 1 else 0))
      (width_is : width_of mid number ≡ bits) (same : reference_of mid number ≡ reference) (first : take (head_of number) mid ≡ take (head_of number) old)
      (rest : drop (head_of (number + 1)) mid ≡ drop (head_of (number + 1)) old) where
    kept : take start made ≡ take start mid
    kept = take-put_mid_below start (stop - start) mid bytes start (omega arith) (omega arith)

    put_form : form_of made number ≡ (if differences then 1 else 0)
    put_form = form_kept made mid start kept number (omega arith) ∙ form_is

    put_width : width_of made number ≡ bits
    put_width = width_kept made mid start kept number (omega arith) ∙ width_is

    put_place : block_place mid number ≡ start
    put_place = place_kept mid old (head_of number) first number (omega arith) ∙ sym at

    put_end : stop ≡ start + block_len made number
    put_end = omega (arith, put_form, put_width, ends)

    put_bytes : block_bytes made number ≡ bytes
    put_bytes =
        let place : block_place made number ≡ start = place_kept made mid start kept number (omega arith) ∙ put_place in
        let end : block_place made (suc number) ≡ stop = omega (arith, place, put_end) in
        ap (λ (n : ℕ). between n (block_place made (suc number)) made) place ∙ ap (λ (n : ℕ). between start n made) end
        ∙ between-put_mid start (stop - start) mid bytes stop (omega arith) (omega arith)

    -- where its head is one, and its bytes are those of its form
    pub has_block : stop ≤ length made → bits ≤ t → number_at 2 mid (head_of number + 2) ≡ 0 → number_at 4 mid (head_of number + 4) ≡ start → reference < 2 ^ t
        → (differences ≡ true → reference ≡ 0) → (differences ≡ false → IsFrame t lanes bits reference bytes values)
        → (differences ≡ true → AreDifferences t lanes bits (take 128 bytes) (drop 128 bytes) values) → HasBlock
    has_block room fits spare place small none frame sums =
        let head : IsBlockHead t mid number = record {
          form = form_most differences (form_of mid number) form_is;
          width = omega (arith, fits, width_is);
          spare = spare;
          place = place ∙ sym put_place;
          reference = subst (λ (n : ℕ). n < 2 ^ t) (sym same) small;
          no_reference = λ one. same ∙ none (are_sums differences (form_of mid number) form_is one);
        } in
        record {
          put = record {
            end = put_end;
            inside = room;
            is_head = head_kept mid made start (sym kept) t number (omega arith) head;
            before = take-put_mid_below start (stop - start) mid bytes (head_of number) (omega arith) (omega arith) ∙ first;
            between =
                ap (drop (head_of (number + 1))) kept ∙ sym (between_is mid (head_of (number + 1)) start)
                ∙ ap (take (start - head_of (number + 1))) rest ∙ between_is old (head_of (number + 1)) start;
            behind =
                drop-put_mid start (stop - start) mid bytes stop (omega arith) (omega arith) long
                ∙ last_behind mid old (head_of (number + 1)) rest stop (omega arith);
          };
          form = put_form;
          width = put_width;
          own_reference = reference_kept made mid start kept number (omega arith) ∙ same;
          own_bytes = put_bytes;
          holds = record {
            frame = λ zero.
                rw (put_bytes, put_width, reference_kept made mid start kept number (omega arith), same) (frame (is_frame differences (form_of made number) put_form zero));
            differences = λ one. rw (put_bytes, put_width) (sums (are_sums differences (form_of made number) put_form one));
          };
        }
