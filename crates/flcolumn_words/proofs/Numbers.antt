-- Numbers that texts write.
use Rattle.std.proofs.Common.{◌≡◌, ◌∙◌, ℕ, ◌+◌, ◌<◌, List, [], ◌∷◌, ◌++◌, ap, ap₂, arith, get_or, length, map, subst, sym, take}
use Rattle.std.specs.Prelude.{All, drop}
use Rattle.std.specs.Borrow.{Bor}
use Rattle.std.specs.Str.Parse.{digits_value}
use Rattle.std.proofs.lemmas.List.{append_assoc, get_or-map, length-map, map-append, map_more, map_push, take-append-drop}
use Rattle.std.proofs.lemmas.List.Elements.{All-push}
use Rattle.flcolumn_words.specs.Refusals.{ShowsFirst, ShowsNumber}
use Rattle.flcolumn_words.specs.Requests.{IsNumber, Write}
use Rattle.flcolumn_words.specs.declared.command.parse.WordsError.{WordsError}
use Rattle.flcolumn_words.specs.declared.command.parse.WordsError.TheVariants.{Element, Incomplete, NoMemory, Number, Refused, Text as NoText}

-- one text more writes one number more
pub write_more : (texts : List (Bor (List ℕ))) (i : ℕ) (d : Bor (List ℕ)) (numbers : List ℕ) (number : ℕ) → i < length texts
    → Write (map (λ text. text.now) (take i texts)) numbers → IsNumber (get_or texts i d).now → number ≡ digits_value 10 (get_or texts i d).now
    → Write (map (λ text. text.now) (take (i + 1) texts)) (numbers ++ number ∷ [])
write_more texts i d numbers number lt before is same =
    let text = (get_or texts i d).now in
    let more = sym (map_more (λ t. t.now) texts i d lt) in
    let pushed = map_push (digits_value 10) (map (λ t. t.now) (take i texts)) text in
    record {
      each = subst (All IsNumber) more (All-push IsNumber _ text before.each is);
      values = ap₂ (λ ns n. ns ++ n ∷ []) before.values same ∙ sym pushed ∙ ap (map (digits_value 10)) more;
    }

-- texts of which one is no number write no numbers
pub unwritten : (texts : List (Bor (List ℕ))) (i : ℕ) (d : Bor (List ℕ)) → i < length texts → (IsNumber (get_or texts i d).now → ⊥)
    → (numbers : List ℕ) → Write (map (λ text. text.now) texts) numbers → ⊥
unwritten texts i d lt other numbers writes =
    let now : Bor (List ℕ) → List ℕ = λ text. text.now in
    let at = writes.each i d.now (omega (arith, length-map texts now, lt)) in
    other (subst IsNumber (get_or-map now texts i d d.now lt) at)

-- a list with one of its elements between those before it and those behind it
parted : (texts : List (Bor (List ℕ))) (i : ℕ) (d : Bor (List ℕ)) → i < length texts
    → map (λ text. text.now) texts
    ≡ map (λ text. text.now) (take i texts) ++ (get_or texts i d).now ∷ map (λ text. text.now) (drop (i + 1) texts)
parted texts i d lt =
    let now : Bor (List ℕ) → List ℕ = λ text. text.now in
    let whole = ap (map now) (sym (take-append-drop (i + 1) texts)) ∙ map-append now (take (i + 1) texts) (drop (i + 1) texts) in
    whole ∙ ap (λ front. front ++ map now (drop (i + 1) texts)) (map_more now texts i d lt)
    ∙ append_assoc (map now (take i texts)) ((get_or texts i d).now ∷ []) (map now (drop (i + 1) texts))

-- the first text that is no number is shown
pub shows_first : (texts : List (Bor (List ℕ))) (i : ℕ) (d : Bor (List ℕ)) (numbers : List ℕ) (error : WordsError) → i < length texts
    → Write (map (λ text. text.now) (take i texts)) numbers → (IsNumber (get_or texts i d).now → ⊥)
    → ShowsNumber (get_or texts i d).now error → ShowsFirst (map (λ text. text.now) texts) error
shows_first texts i d numbers (Number word) lt before other told = record {
  before = map (λ text. text.now) (take i texts);
  after = map (λ text. text.now) (drop (i + 1) texts);
  are = subst (λ word. map (λ text. text.now) texts
      ≡ map (λ text. text.now) (take i texts) ++ word ∷ map (λ text. text.now) (drop (i + 1) texts)) (sym told) (parted texts i d lt);
  numbers = before.each;
  other = subst (λ word. IsNumber word → ⊥) (sym told) other;
}
shows_first texts i d numbers NoMemory lt before other told = tt
shows_first texts i d numbers (Refused error) lt before other told = told
shows_first texts i d numbers NoText lt before other told = told
shows_first texts i d numbers (Element word) lt before other told = told
shows_first texts i d numbers Incomplete lt before other told = told
