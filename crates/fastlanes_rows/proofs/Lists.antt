-- Lists of a known length, whole.
use Rattle.std.proofs.Common.{◌≡◌, ℕ, ◌++◌, [], List, length, take, drop, ap, subst, ◌∙◌, arith}
use Rattle.std.proofs.Math.ListN.{drop_of_length-le}
use Rattle.std.proofs.Math.Seq.{take-length}
use Rattle.std.proofs.lemmas.List.{append-nil}

-- nothing is left of a list behind its end
drop_whole : {X : Type 0} (n : ℕ) (l : List X) → length l ≡ n → drop n l ≡ []
drop_whole n l long = drop_of_length-le l (omega (arith, long))

pub take_whole : {X : Type 0} (n : ℕ) (l : List X) → length l ≡ n → take n l ≡ l
take_whole n l long = subst (λ (k : ℕ). take k l ≡ l) long (take-length l)

pub append_none : {X : Type 0} (n : ℕ) (l m : List X) → length m ≡ n → l ++ drop n m ≡ l
append_none n l m long = ap (λ k. l ++ k) (drop_whole n m long) ∙ append-nil l
