-- An argument's other name.
use Rattle.std.proofs.Common.{◌≡◌, ◌∙◌, ℕ, Bool, List, [], ◌∷◌, ◌++◌, ap, ap₂, map}
use Rattle.std.specs.Borrow.{Bor}
use Rattle.std.proofs.lemmas.List.{map-append}
use Rattle.clap.specs.Adds.{AddsAliases}
use Rattle.clap.specs.Words.{Rule, rule_of}
use Rattle.clap.specs.declared.builder.arg.Arg.{Arg}
use Rattle.flcolumn_words.specs.Commands.{IsArg}

-- an argument with another name has the rule with that name more
pub with_alias : (rule : Rule) (old new : Arg) (name : Bor (List ℕ)) (shown : Bool) → IsArg rule old → AddsAliases old new ((name, shown) ∷ [])
    → IsArg (record rule { aliases = rule.aliases ++ name.now ∷ [] }) new
with_alias rule old new name shown is adds =
    let text : Bor (List ℕ) × Bool → List ℕ = λ alias. alias.0.now in
    let same : rule_of new ≡ record (rule_of old) { aliases = map text new.aliases.items } = ap rule_of adds.0 in
    let more : map text new.aliases.items ≡ rule.aliases ++ name.now ∷ [] =
    ap (map text) adds.1 ∙ map-append text old.aliases.items ((name, shown) ∷ []) ∙ ap (λ (r : Rule). r.aliases ++ name.now ∷ []) is.rule in
    record {
      rule = same ∙ ap₂ (λ (r : Rule) (names : List (List ℕ)). record r { aliases = names }) is.rule more;
      local = ap (λ (arg : Arg). arg.global) adds.0 ∙ is.local;
    }
