-- What several calls of a source or a sink gave or took together.
use Rattle.std.proofs.Common.{◌≡◌, ℕ, ◌+◌, ◌-◌, ◌≤◌, List, ◌++◌, length, take, drop, sym, ap, ◌∙◌, arith, append_assoc}
use Rattle.std.proofs.Math.Seq.{take-add, take-append-add}
use Rattle.std.proofs.lemmas.List.{drop-drop, length-append, length-drop, length-take-le, take-append-drop, take-append-le, take_at, take_rest}
use Rattle.std.specs.List.{between}
use Rattle.fastlanes_streams.specs.Stream.{Source, Sink, Gives, Takes}
use borrow.Rule.Slice.PartMut.{put_mid, post_of}

-- the bytes of two calls, the first call's first
pub Gives-append : {r s t : Source} {xs ys : List ℕ} → Gives r xs s → Gives s ys t → Gives r (xs ++ ys) t
Gives-append {r = r} {s = s} {t = t} {xs = xs} {ys = ys} first second = record {
  given = second.given ∙ ap (λ zs. zs ++ ys) first.given ∙ append_assoc r.given xs ys;
  left = first.left ∙ ap (λ zs. xs ++ zs) second.left ∙ sym (append_assoc xs ys t.left);
}

pub Takes-append : {r s t : Sink} {xs ys : List ℕ} → Takes r xs s → Takes s ys t → Takes r (xs ++ ys) t
Takes-append {r = r} {xs = xs} {ys = ys} first second = record {
  taken = second.taken ∙ ap (λ zs. zs ++ ys) first.taken ∙ append_assoc r.taken xs ys;
  flushed = second.flushed ∙ first.flushed;
  left = second.left ∙ ap (drop (length ys)) first.left ∙ drop-drop (length ys) (length xs) r.left
      ∙ ap (λ n. drop n r.left) (sym (length-append xs ys));
  target = second.target ∙ first.target;
}

-- a buffer that was filled up to f now is filled up to f + n
take-filled : (block piece : List ℕ) (f n : ℕ) → f ≤ length block → n ≤ length piece
    → take (f + n) (put_mid f (length block - f) block piece) ≡ take f block ++ take n piece
take-filled block piece f n below within =
    let long : length (take f block) ≡ f = length-take-le f block below in
    let rest = post_of f (length block - f) block in
    ap (λ m. take (m + n) (take f block ++ (piece ++ rest))) (sym long)
    ∙ take-append-add (take f block) (piece ++ rest) n
    ∙ ap (λ zs. take f block ++ zs) (take-append-le n piece rest within)

-- the next n bytes of those past w
take-written : (bytes : List ℕ) (w n : ℕ) → take w bytes ++ take n (between w (length bytes) bytes) ≡ take (w + n) bytes
take-written bytes w n = ap (λ zs. take w bytes ++ take n zs) (take_rest bytes w) ∙ sym (take-add w n bytes)

-- the sink took n bytes more
pub Takes-more : {r s t : Sink} (bytes : List ℕ) (w n : ℕ) → Takes r (take w bytes) s
    → Takes s (take n (between w (length bytes) bytes)) t → Takes r (take (w + n) bytes) t
Takes-more bytes w n first second = rw (take-written bytes w n) at (Takes-append first second)

-- the source gave n bytes more
pub Gives-more : {r s t : Source} (block piece : List ℕ) (f n : ℕ) → f ≤ length block → n ≤ length piece → Gives r (take f block) s
    → Gives s (take n piece) t → Gives r (take (f + n) (put_mid f (length block - f) block piece)) t
Gives-more block piece f n below within first second = rw (take-filled block piece f n below within) (Gives-append first second)

-- a slice gives its next k bytes, at the start of a buffer
pub Gives-next : (bytes buffer piece : List ℕ) (used k : ℕ) → used + k ≤ length bytes → piece ≡ between used (used + k) bytes
    → Gives (record { given = take used bytes; left = drop used bytes }) (take k (piece ++ drop k buffer))
    (record { given = take (used + k) bytes; left = drop (used + k) bytes })
Gives-next bytes buffer piece used k fits is =
    let count : used + k - used ≡ k = omega arith in
    let next : piece ≡ take k (drop used bytes) = is ∙ ap (λ n. take n (drop used bytes)) count in
    let rest = length-drop used bytes in
    let long : length piece ≡ k = ap length next ∙ length-take-le k (drop used bytes) (omega arith) in
    let first : take k (piece ++ drop k buffer) ≡ take k (drop used bytes) = take_at piece (drop k buffer) k long ∙ next in
    rw first record {
      given = take-add used k bytes;
      left = sym (take-append-drop k (drop used bytes)) ∙ ap (λ ys. take k (drop used bytes) ++ ys) (drop-drop k used bytes);
    }
