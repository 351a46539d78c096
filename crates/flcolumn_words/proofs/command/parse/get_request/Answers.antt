use Rattle.std.proofs.Common.{◌∙◌, codes, inl, inr, map, refl, sym}
use Rattle.clap.specs.Words.{found_of, rows_of}
use Rattle.clap.proofs.WalkLemmas.{raw_values-rows}
use Rattle.flcolumn_words.specs.declared.command.parse.WordsError.TheVariants.{Incomplete}
use Rattle.flcolumn_words.proofs.Unasked.{refused_get, refused_get_none, shows_number}
use Rattle.flcolumn_words.proofs.command.parse.get_request.Goals as goal

pub returns-in-Ok-clause-asked : goal.returns-in-Ok-clause-asked
returns-in-Ok-clause-asked c =
    let texts = c.in-Some.texts.now in
    let all = sym (raw_values-rows (found_of c.args.matches.now) (codes "N")) ∙ sym c.in-Some.ensures in
    (refl, map (λ v. v.now) texts, all, c.in-Ok.ensures.numbers)

pub returns-in-Err-clause-refused : goal.returns-in-Err-clause-refused
returns-in-Err-clause-refused c =
    let f = found_of c.args.matches.now in
    refused_get (rows_of f) (map (λ v. v.now) c.in-Some.texts.now) _ (sym (raw_values-rows f (codes "N")) ∙ sym c.in-Some.ensures) c.in-Err.ensures.refused

pub returns-in-None-clause-refused : goal.returns-in-None-clause-refused
returns-in-None-clause-refused c =
    let f = found_of c.args.matches.now in
    refused_get_none (rows_of f) Incomplete (sym (raw_values-rows f (codes "N")) ∙ sym c.in-None.ensures)

pub returns-in-Err-clause-shown : goal.returns-in-Err-clause-shown
returns-in-Err-clause-shown c =
    let f = found_of c.args.matches.now in
    shows_number (rows_of f) (map (λ v. v.now) c.in-Some.texts.now) _ (sym (raw_values-rows f (codes "N")) ∙ sym c.in-Some.ensures) c.in-Err.ensures.shown

pub returns-in-None-clause-shown : goal.returns-in-None-clause-shown
returns-in-None-clause-shown c =
    let f = found_of c.args.matches.now in
    inr (inl (refl, sym (raw_values-rows f (codes "N")) ∙ sym c.in-None.ensures))
