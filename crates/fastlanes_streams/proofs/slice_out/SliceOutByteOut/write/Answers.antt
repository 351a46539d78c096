use Rattle.std.proofs.Common.{◌≡◌, ◌+◌, ◌≤◌, ◌++◌, length, take, drop, refl, ap, sym, ◌∙◌, arith, rules}
use Rattle.std.proofs.lemmas.List.{drop-drop, length-take-le}
use Rattle.std.proofs.lemmas.Slice.{drop-put_mid, take-put_mid}
use Rattle.fastlanes_streams.proofs.slice_out.SliceOutByteOut.write.Goals as goal

pub returns-clause-takes : goal.returns-clause-takes
returns-clause-takes c =
    let s = c.args.self.now in
    let n = c.min-count.result in
    let fits : s.used ≤ length s.bytes.now = omega (arith, s.within) in
    let many : n ≤ length c.args.bytes.now = search rules in
    let long : length (take n c.args.bytes.now) ≡ n = length-take-le n c.args.bytes.now many in
    let piece : c.copy_from_slice.new.self ≡ take n c.args.bytes.now = c.copy_from_slice.ensures.after in
    let count : length c.copy_from_slice.new.self ≡ n = ap length piece ∙ long in
    let next : s.used + n ≡ s.used + length c.copy_from_slice.new.self = ap (λ k. s.used + k) (sym count) in
    record {
      taken = take-put_mid s.used _ s.bytes.now _ (s.used + n) next fits ∙ ap (λ zs. take s.used s.bytes.now ++ zs) piece;
      flushed = refl;
      left = drop-put_mid s.used _ s.bytes.now _ (s.used + n) (omega arith) fits (omega (arith, count))
          ∙ sym (drop-drop n s.used s.bytes.now) ∙ ap (λ k. drop k (drop s.used s.bytes.now)) (sym long);
      target = refl;
    }
