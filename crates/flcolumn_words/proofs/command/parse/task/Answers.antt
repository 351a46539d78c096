use Rattle.std.proofs.Common.{◌≡◌, [], map, refl, subst, true}
use Rattle.std.proofs.lemmas.Result.{IfErr-weaker, IfOk-weaker}
use Rattle.clap.specs.Words.{App, HasKind, HasMatchesOf, fault_of, is_simple_and_free}
use Rattle.std.specs.Prelude.{IfErr, IfOk}
use Rattle.flcolumn_words.specs.Refusals.{IsRefusalOf, ShowsOf}
use Rattle.flcolumn_words.specs.Requests.{IsTaskOf}
use Rattle.flcolumn_words.proofs.Unasked.{refused_form, refused_words, tells_shown}
use Rattle.flcolumn_words.proofs.command.parse.task.Goals as goal

pub returns-clause-asked : goal.returns-clause-asked
returns-clause-asked g c =
    let words = map g.S.AsStr.text c.args.words.now in
    let told = c.in-Ok-try_get_matches_from.ensures in
    let found = subst (λ (app : App). HasMatchesOf app words c.in-Ok-try_get_matches_from.matches) c.in-Ok.ensures told.matches refl in
    let form = subst (λ (app : App). is_simple_and_free app ≡ true → fault_of app words ≡ []) c.in-Ok.ensures told.kinds refl in
    let asked = subst (λ asked. IfOk c.task_of-task.result (IsTaskOf asked)) found.1 c.task_of-task.ensures.asked in
    IfOk-weaker c.task_of-task.result _ _ (λ task is. record { form = form; asked = is }) asked

pub returns-in-Err-try_get_matches_from-clause-refused : goal.returns-in-Err-try_get_matches_from-clause-refused
returns-in-Err-try_get_matches_from-clause-refused g c =
    let words = map g.S.AsStr.text c.args.words.now in
    let error = c.in-Err-try_get_matches_from.error in
    let kinds = c.in-Err-try_get_matches_from.ensures.kinds in
    let free = λ (app : App). is_simple_and_free app ≡ true → HasKind (fault_of app words) error in
    refused_form words error (subst free c.in-Ok.ensures kinds refl)

pub returns-clause-refused : goal.returns-clause-refused
returns-clause-refused g c =
    let words = map g.S.AsStr.text c.args.words.now in
    let told = c.in-Ok-try_get_matches_from.ensures in
    let found = subst (λ (app : App). HasMatchesOf app words c.in-Ok-try_get_matches_from.matches) c.in-Ok.ensures told.matches refl in
    let refused = subst (λ asked. IfErr c.task_of-task.result (IsRefusalOf (IsTaskOf asked))) found.1 c.task_of-task.ensures.refused in
    IfErr-weaker c.task_of-task.result _ _ (refused_words words) refused

pub returns-in-Err-try_get_matches_from-clause-told : goal.returns-in-Err-try_get_matches_from-clause-told
returns-in-Err-try_get_matches_from-clause-told g c =
    let words = map g.S.AsStr.text c.args.words.now in
    let error = c.in-Err-try_get_matches_from.error in
    let free = λ (app : App). is_simple_and_free app ≡ true → HasKind (fault_of app words) error in
    subst free c.in-Ok.ensures c.in-Err-try_get_matches_from.ensures.kinds refl

pub returns-clause-told : goal.returns-clause-told
returns-clause-told g c =
    let words = map g.S.AsStr.text c.args.words.now in
    let told = c.in-Ok-try_get_matches_from.ensures in
    let found = subst (λ (app : App). HasMatchesOf app words c.in-Ok-try_get_matches_from.matches) c.in-Ok.ensures told.matches refl in
    let form = subst (λ (app : App). is_simple_and_free app ≡ true → fault_of app words ≡ []) c.in-Ok.ensures told.kinds refl in
    let shown = subst (λ asked. IfErr c.task_of-task.result (ShowsOf asked)) found.1 c.task_of-task.ensures.shown in
    IfErr-weaker c.task_of-task.result _ _ (λ error. tells_shown words error form) shown
