-- What the words of a command are answered.
use Rattle.std.proofs.Common.{◌≡◌, ◌↔◌, ◌⊎◌, ℕ, ◌<◌, ◌≤◌, List, [], ◌∷◌, Result, Ok, Err, IfOk, IfErr, length, map, get_or, inl, inr, refl, sym, ap, ◌∙◌, arith}
use Rattle.std.specs.Prelude.{if◌then◌else◌, ◌==◌, codes}
use Rattle.flblock.specs.declared.command.Command.{Command}
use Rattle.flblock.specs.declared.command.ElementType.{ElementType}
use Rattle.flblock.specs.declared.command.ElementType.TheVariants.{U8, U16, U32, U64}
use Rattle.flblock.specs.declared.error.BlockError.{BlockError}
use Rattle.flblock.specs.declared.error.BlockError.TheVariants.{Usage, Width, ShortInput, ReadFailed, WriteFailed}
use Rattle.flblock.specs.Element.{bits_of, element_word}
use Rattle.flblock.specs.Words.{IsCommandForm, IsToldOf, IsTooWide, Names, decimal_value, meant_words}

-- a type's bits by the second letter of its word
bits_by : ℕ → ℕ
bits_by letter = if letter == 56 then 8 else (if letter == 49 then 16 else (if letter == 51 then 32 else 64))

bits_of-word : (element : ElementType) → bits_of element ≡ bits_by (get_or (element_word element) 1 0)
unfolding bits_by
bits_of-word U8 = refl
bits_of-word U16 = refl
bits_of-word U32 = refl
bits_of-word U64 = refl

-- a command's width is not too great, since words name one type alone
not_too_wide : (words : List (List ℕ)) (c : Command) → Names words c → ¬ (IsTooWide words)
not_too_wide words c named wide =
    let orders = sym named.1.in_order ∙ wide.3.in_order in
    let types = ap (λ ws. get_or ws 1 []) orders in
    let bits = bits_of-word c.element ∙ ap (λ word. bits_by (get_or word 1 0)) types ∙ sym (bits_of-word wide.1) in
    let values = ap (λ ws. decimal_value (get_or ws 2 [])) orders in
    omega (arith, bits, values, named.2, wide.4, c.width_fits)

-- an answer to the words, as the contract of `parse_command` has it
pub record IsAnswer (words : List (List ℕ)) (r : Result Command BlockError) : Type 0 where
  pub usage : r ≡ Err Usage ↔ ¬ (IsCommandForm words)
  pub width : r ≡ Err Width ↔ IsTooWide words
  pub named : IfOk r (Names words)
  pub only : IfErr r (λ e. (e ≡ Usage) ⊎ (e ≡ Width))

pub IsAnswer-told : (words : List (List ℕ)) (r : Result Command BlockError) → IsToldOf words r → IsAnswer words r
IsAnswer-told words (Ok c) named = record {
  usage = (λ e. absurd cc, λ n. absurd (n (c.verb, c.element, named.0, named.1)));
  width = (λ e. absurd cc, λ wide. absurd (not_too_wide words c named wide));
  named = named;
  only = tt;
}
IsAnswer-told words (Err Usage) none = record {
  usage = (λ _. none, λ _. refl);
  width = (λ e. absurd cc, λ wide. absurd (none (wide.0, wide.1, wide.2, wide.3)));
  named = tt;
  only = inl refl;
}
IsAnswer-told words (Err Width) wide = record {
  usage = (λ e. absurd cc, λ n. absurd (n (wide.0, wide.1, wide.2, wide.3)));
  width = (λ _. wide, λ _. refl);
  named = tt;
  only = inr refl;
}
IsAnswer-told words (Err ShortInput) none = absurd none
IsAnswer-told words (Err ReadFailed) none = absurd none
IsAnswer-told words (Err WriteFailed) none = absurd none

-- what three words are told is told of the words that mean them
pub IsToldOf-meant : (words : List (List ℕ)) (a b d : List ℕ) (r : Result Command BlockError)
    → meant_words words ≡ a ∷ b ∷ d ∷ [] → IsToldOf (a ∷ b ∷ d ∷ []) r → IsToldOf words r
IsToldOf-meant words a b d (Ok c) meant named = (named.0, record { in_order = meant ∙ named.1.in_order; decimal = named.1.decimal }, named.2)
IsToldOf-meant words a b d (Err Usage) meant none =
    λ form. none (form.0, form.1, form.2, record { in_order = sym meant ∙ form.3.in_order; decimal = form.3.decimal })
IsToldOf-meant words a b d (Err Width) meant wide =
    (wide.0, wide.1, wide.2, record { in_order = meant ∙ wide.3.in_order; decimal = wide.3.decimal }, wide.4)
IsToldOf-meant words a b d (Err ShortInput) meant none = none
IsToldOf-meant words a b d (Err ReadFailed) meant none = none
IsToldOf-meant words a b d (Err WriteFailed) meant none = none

-- which words are meant by none and by three
pub meant-none : {A : Type 0} (f : A → List ℕ) (words : List A) → length words < 1
    → meant_words (map f words) ≡ codes "ramp" ∷ codes "u16" ∷ codes "4" ∷ []
meant-none f [] few = refl
meant-none f (a ∷ rest) few = absurd (omega arith)

pub meant-three : {A : Type 0} (f : A → List ℕ) (words : List A) (other : A) → 3 ≤ length words → length words < 4
    → meant_words (map f words) ≡ f (get_or words 0 other) ∷ f (get_or words 1 other) ∷ f (get_or words 2 other) ∷ []
meant-three f [] other some few = absurd (omega arith)
meant-three f (a ∷ []) other some few = absurd (omega arith)
meant-three f (a ∷ b ∷ []) other some few = absurd (omega arith)
meant-three f (a ∷ b ∷ d ∷ []) other some few = refl
meant-three f (a ∷ b ∷ d ∷ e ∷ rest) other some few = absurd (omega arith)
