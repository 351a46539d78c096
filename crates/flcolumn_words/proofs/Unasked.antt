-- When nothing is asked for.
use Rattle.std.proofs.Common.{◌≡◌, ◌∙◌, ℕ, List, [], Option, Some, None, ap, arith, codes, get_or, inl, inr, refl, subst, sym}
use Rattle.clap.specs.Words.{HasKind, IsAmong, Row, Text, all_of, fault_of, first_of, kind_of, subcommand_of}
use Rattle.clap.specs.declared.error.Error.{Error}
use Rattle.flcolumn_words.specs.Commands.{all_commands}
use Rattle.flcolumn_words.specs.Refusals.{IsRefusalOf, Shows, ShowsElement, ShowsFirst, ShowsOf, Tells}
use Rattle.flcolumn_words.specs.Requests.{AskFor, Asks, IsTaskOf, Write, element_word}
use Rattle.flcolumn_words.specs.declared.command.parse.WordsError.{WordsError}
use Rattle.flcolumn_words.specs.declared.command.parse.WordsError.TheVariants.{Element, Incomplete, NoMemory, Number, Refused, Text as NoText}
use Rattle.flcolumn_words.specs.declared.command.ElementType.{ElementType}
use Rattle.flcolumn_words.specs.declared.command.Request.{Request}
use Rattle.flcolumn_words.specs.declared.command.Request.TheVariants.{Encode, Decode, Info, Get}

-- words that begin with other letters are not the same
other_letter : (one other : Text) → one ≡ other → (get_or one 0 0 ≡ get_or other 0 0 → ⊥) → ⊥
other_letter one other same letters = letters (ap (λ word. get_or word 0 0) same)

-- `encode` with no element type asks for nothing
pub unencoded : (rows : List Row) → ((element : ElementType) → first_of (codes "TYPE") rows ≡ Some (element_word element) → ⊥)
    → (request : Request) → Asks (codes "encode") rows request → ⊥
unencoded rows none (Encode element frames_only checked) asks = none element asks.1
unencoded rows none Decode asks = other_letter _ _ asks (λ same. omega (arith, same))
unencoded rows none Info asks = other_letter _ _ asks (λ same. omega (arith, same))
unencoded rows none (Get numbers) asks = other_letter _ _ asks.0 (λ same. omega (arith, same))

-- `get` with texts that are no numbers asks for nothing
pub ungot : (rows : List Row) → ((texts : List Text) (numbers : List ℕ) → all_of (codes "N") rows ≡ Some texts → Write texts numbers → ⊥)
    → (request : Request) → Asks (codes "get") rows request → ⊥
ungot rows none (Encode element frames_only checked) asks = other_letter _ _ asks.0 (λ same. omega (arith, same))
ungot rows none Decode asks = other_letter _ _ asks (λ same. omega (arith, same))
ungot rows none Info asks = other_letter _ _ asks (λ same. omega (arith, same))
ungot rows none (Get numbers) asks = none asks.1 numbers.items asks.2 asks.3

-- where texts are there, it is refused as they are
pub refused_get : (rows : List Row) (texts : List Text) (error : WordsError) → all_of (codes "N") rows ≡ Some texts
    → IsRefusalOf (Write texts) error → IsRefusalOf (Asks (codes "get") rows) error
refused_get rows texts error all (inl none) = inl (ungot rows (λ others numbers told writes.
    let same : others ≡ texts = cc (told, all) in
    none numbers (subst (λ ts. Write ts numbers) same writes)))
refused_get rows texts error all (inr memory) = inr memory

-- where there are none, nothing is asked for
pub refused_get_none : (rows : List Row) (error : WordsError) → all_of (codes "N") rows ≡ None → IsRefusalOf (Asks (codes "get") rows) error
refused_get_none rows error none = inl (ungot rows (λ texts numbers told writes. absurd (cc (told, none))))

-- the same of the element type of `encode`
pub refused_encode_none : (rows : List Row) (error : WordsError) → first_of (codes "TYPE") rows ≡ None
    → IsRefusalOf (Asks (codes "encode") rows) error
refused_encode_none rows error none = inl (unencoded rows (λ element told. absurd (cc (told, none))))

pub refused_encode : (rows : List Row) (name : Text) (error : WordsError) → first_of (codes "TYPE") rows ≡ Some name
    → ((element : ElementType) → name ≡ element_word element → ⊥) → IsRefusalOf (Asks (codes "encode") rows) error
refused_encode rows name error first other = inl (unencoded rows (λ element told. other element (cc (told, first))))

-- where matches ask for nothing, so do their words
pub refused_words : (words : List Text) (error : WordsError) → IsRefusalOf (IsTaskOf (subcommand_of all_commands words)) error
    → IsRefusalOf (AskFor words) error
refused_words words error (inl none) = inl (λ task asks. none task asks.asked)
refused_words words error (inr memory) = inr memory

-- what clap refuses has not the form
pub refused_form : (words : List Text) (error : Error) → HasKind (fault_of all_commands words) error → IsRefusalOf (AskFor words) (Refused error)
refused_form words error (inl memory) = inr memory
refused_form words error (inr among) = inl (λ task asks. subst (IsAmong (kind_of error)) asks.form among)

-- the TYPE that names no element type is shown
pub shows_element : (rows : List Row) (name : Text) (error : WordsError) → first_of (codes "TYPE") rows ≡ Some name
    → ((element : ElementType) → name ≡ element_word element → ⊥) → ShowsElement name error → Shows (codes "encode") rows error
shows_element rows name (Element word) first other told = record {
  command = refl;
  is = first ∙ ap Some (sym told);
  other = λ element same. other element (sym told ∙ same);
}
shows_element rows name NoMemory first other told = tt
shows_element rows name (Refused error) first other told = told
shows_element rows name NoText first other told = told
shows_element rows name (Number word) first other told = absurd told
shows_element rows name Incomplete first other told = absurd told

-- the first N that is no number is shown
pub shows_number : (rows : List Row) (texts : List Text) (error : WordsError) → all_of (codes "N") rows ≡ Some texts → ShowsFirst texts error
    → Shows (codes "get") rows error
shows_number rows texts (Number word) all told = record { command = refl; texts = texts; are = all; first = told }
shows_number rows texts NoMemory all told = tt
shows_number rows texts (Refused error) all told = told
shows_number rows texts NoText all told = told
shows_number rows texts (Element word) all told = absurd told
shows_number rows texts Incomplete all told = absurd told

-- what is shown of matches is no refusal of clap's
unrefused : (asked : Option (Text × List Row)) (error : Error) → ShowsOf asked (Refused error) → ⊥
unrefused (Some asked) error shown = shown
unrefused None error shown = shown

-- words that have the form have the error that is shown of their matches
pub tells_shown : (words : List Text) (error : WordsError) → fault_of all_commands words ≡ []
    → ShowsOf (subcommand_of all_commands words) error → Tells words error
tells_shown words (Refused error) form shown = absurd (unrefused (subcommand_of all_commands words) error shown)
tells_shown words NoMemory form shown = tt
tells_shown words NoText form shown = (form, shown)
tells_shown words (Element word) form shown = (form, shown)
tells_shown words (Number word) form shown = (form, shown)
tells_shown words Incomplete form shown = (form, shown)
