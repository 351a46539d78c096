-- What several calls of a source or a sink gave or took together.
use Rattle.std.proofs.Common.{◌≡◌, ℕ, ◌+◌, ◌≤◌, [], ◌++◌, ◌∙◌, List, ap, append_assoc, arith, drop, length, refl, sym, take}
use Rattle.std.proofs.Math.Seq.{take-append_seam, take-append-add, take-length}
use Rattle.std.proofs.lemmas.List.{append-nil, drop-drop, length-append, length-take-le, take-append-le}
use Rattle.fastlanes_format.proofs.NumberPlaces.{number_at-append, number_at-take}
use Rattle.fastlanes_format.specs.Format.{number_at}
use Rattle.fastlanes_streams.proofs.Moves.{Gives-append}
use Rattle.fastlanes_streams.specs.Stream.{Delivers, Gives, Sink, Source, Takes}
use borrow.Rule.Slice.PartMut.{post_of, put_mid}

-- a buffer that begins with a head, and is filled behind it
pub head_and_rest : {r s t : Source} (head others piece : List ℕ) (k h n : ℕ) → length head ≡ 16 → h ≡ 16 → n ≤ length piece
    → Gives r (take h head) s → Gives s (take n piece) t → Gives r (take (16 + n) (put_mid 16 k (head ++ others) piece)) t
head_and_rest {r = r} head others piece k h n long all within first second =
    let whole : take h head ≡ head = ap (λ m. take m head) (all ∙ sym long) ∙ take-length head in
    let begin : take 16 (head ++ others) ≡ head = ap (λ m. take m (head ++ others)) (sym long) ∙ take-append_seam head others in
    let rest = post_of 16 k (head ++ others) in
    let same : take (16 + n) (put_mid 16 k (head ++ others) piece) ≡ head ++ take n piece =
    ap (λ xs. take (16 + n) (xs ++ (piece ++ rest))) begin
    ∙ ap (λ m. take (m + n) (head ++ (piece ++ rest))) (sym long)
    ∙ take-append-add head (piece ++ rest) n
    ∙ ap (λ zs. head ++ zs) (take-append-le n piece rest within) in
    rw same (Gives-append (rw whole at first) second)

-- there is room for it
pub room_for_rest : (k : ℕ) (bytes piece : List ℕ) → 16 ≤ length bytes → 16 + length piece ≤ length (put_mid 16 k bytes piece)
room_for_rest k bytes piece long = omega (arith, length-take-le 16 bytes long, length-append {A = ℕ})

-- and the head stays
pub head_stays : (k : ℕ) (bytes piece : List ℕ) → 16 ≤ length bytes → number_at 4 (put_mid 16 k bytes piece) 8 ≡ number_at 4 bytes 8
head_stays k bytes piece long =
    let head = length-take-le 16 bytes long in
    number_at-append 4 (take 16 bytes) (piece ++ post_of 16 k bytes) 8 (omega (arith, head))
    ∙ number_at-take 4 16 bytes 8 (omega (arith, head))

-- no bytes
pub none_given : (s : Source) → Gives s [] s
none_given s = record { given = sym (append-nil s.given); left = refl }

pub none_taken : (s : Sink) → Takes s [] s
none_taken s = record { taken = sym (append-nil s.taken); flushed = refl; left = refl; target = refl }

-- and at the last one was flushed
pub Takes-Delivers : {r s t : Sink} {xs ys : List ℕ} → Takes r xs s → Delivers s ys t → Delivers r (xs ++ ys) t
Takes-Delivers {r = r} {xs = xs} {ys = ys} first second = record {
  taken = second.taken ∙ ap (λ zs. zs ++ ys) first.taken ∙ append_assoc r.taken xs ys;
  flushed = second.flushed;
  left = second.left ∙ ap (drop (length ys)) first.left ∙ drop-drop (length ys) (length xs) r.left
      ∙ ap (λ n. drop n r.left) (sym (length-append xs ys));
  target = second.target ∙ first.target;
}
