use Rattle.std.proofs.Common.{◌≡◌, [], ◌∷◌, map}
use Rattle.flblock.specs.Words.{meant_words}
use Rattle.flblock.proofs.Words.{IsAnswer-told, IsToldOf-meant, meant-none, meant-three}
use Rattle.flblock.proofs.command.parse.parse_command.Goals.{in-empty, in-len3}
use Rattle.flblock.proofs.command.parse.parse_command.Goals as goal

pub returns : goal.returns
returns c =
    let words = c.args.words.now in
    let meant = c.if-words-lt1.meant in
    let same : meant_words (map (λ word. word.now) words) ≡ meant.0.now ∷ meant.1.now ∷ meant.2.now ∷ [] = elim c.if-words-lt1.branch [
      | in-empty w ↦ rw w.meant-is (meant-none _ words w.in-empty.len_below)
      | in-len3 w ↦ rw w.meant-is (meant-three _ words _ w.in-len3.len_at_least w.in-len3.len_below)
    ] in
    let told = IsAnswer-told _ _ (IsToldOf-meant _ _ _ _ _ same c.parse_words.ensures) in
    record { usage = told.usage; width = told.width; named = told.named; only = told.only }
