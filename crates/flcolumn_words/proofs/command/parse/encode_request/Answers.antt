use Rattle.std.proofs.Common.{◌∙◌, ap, codes, inl, not, refl, Some, sym}
use Rattle.clap.specs.Words.{found_of, rows_of}
use Rattle.clap.proofs.WalkLemmas.{first_value-rows, one_text-rows}
use Rattle.flcolumn_words.specs.declared.command.parse.WordsError.TheVariants.{Incomplete}
use Rattle.flcolumn_words.proofs.Unasked.{refused_encode, refused_encode_none, shows_element}
use Rattle.flcolumn_words.proofs.command.parse.encode_request.Goals as goal

pub returns-clause-asked : goal.returns-clause-asked
returns-clause-asked c =
    let f = found_of c.args.matches.now in
    let first = sym (first_value-rows f (codes "TYPE")) ∙ sym c.in-Some.ensures ∙ ap Some c.in-Some-element_of.ensures.named in
    let frames = one_text-rows f (codes "for-only") in
    let checks = one_text-rows f (codes "no-checksums") in (
      refl,
      first,
      (λ e. c.get_flag.ensures.value (frames ∙ e), λ e. c.get_flag.ensures.other (frames ∙ e)),
      (λ e. ap (λ b. not (not b)) (c.get_flag-2.ensures.value (checks ∙ e)), λ e. ap (λ b. not (not b)) (c.get_flag-2.ensures.other (checks ∙ e))),
    )

pub returns-in_default-clause-refused : goal.returns-in_default-clause-refused
returns-in_default-clause-refused c =
    let f = found_of c.args.matches.now in
    refused_encode_none (rows_of f) Incomplete (sym (first_value-rows f (codes "TYPE")) ∙ sym c.in_default.ensures)

pub returns-in_default-clause-shown : goal.returns-in_default-clause-shown
returns-in_default-clause-shown c =
    let f = found_of c.args.matches.now in
    inl (refl, sym (first_value-rows f (codes "TYPE")) ∙ sym c.in_default.ensures)

pub returns-in_default-element_of-clause-refused : goal.returns-in_default-element_of-clause-refused
returns-in_default-element_of-clause-refused c =
    let f = found_of c.args.matches.now in
    refused_encode (rows_of f) _ _ (sym (first_value-rows f (codes "TYPE")) ∙ sym c.in-Some.ensures) c.in_default-element_of.ensures.other

pub returns-in_default-element_of-clause-shown : goal.returns-in_default-element_of-clause-shown
returns-in_default-element_of-clause-shown c =
    let f = found_of c.args.matches.now in
    shows_element (rows_of f) _ _ (sym (first_value-rows f (codes "TYPE")) ∙ sym c.in-Some.ensures) c.in_default-element_of.ensures.other c.no_element.ensures
