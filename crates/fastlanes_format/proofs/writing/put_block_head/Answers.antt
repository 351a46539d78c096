use Rattle.std.proofs.Common.{◌≡◌, ℕ, ◌+◌, ◌*◌, ◌≤◌, ◌∙◌, List, arith, rules, get_or, if◌then◌else◌, length, slice_set}
use Rattle.std.proofs.lemmas.Grind.{elements}
use Rattle.std.proofs.lemmas.List.{drop-set-lt, take-set-le}
use Rattle.fastlanes_format.specs.Format.{head_of, number_at}
use Rattle.fastlanes_format.proofs.NumbersKept.{byte_before, first_before, last_behind, number_before}
use Rattle.fastlanes_format.proofs.writing.put_block_head.Goals as goal

module _ (bytes : List ℕ) (at a b : ℕ) (inside : at + 4 ≤ length bytes) where
  abbrev set : List ℕ
  set = slice_set (slice_set (slice_set (slice_set bytes at a) (at + 1) b) (at + 2) 0) (at + 3) 0

  first : get_or set at 0 ≡ a
  first = grind (arith, elements)

  second : get_or set (at + 1) 0 ≡ b
  second = grind (arith, elements)

  spare : number_at 2 set (at + 2) ≡ 0
  spare = grind (arith, elements)

pub returns-clause-before : goal.returns-clause-before
returns-clause-before c =
    let head = 16 + 16 * c.args.block in
    first_before c.put_eight.new.bytes c.put_four.new.bytes (head + 8) c.put_eight.ensures.before head (omega arith)
    ∙ first_before c.put_four.new.bytes _ (head + 4) c.put_four.ensures.before head (omega arith)
    ∙ take-set-le head _ (head + 3) _ (omega arith) ∙ take-set-le head _ (head + 2) _ (omega arith)
    ∙ take-set-le head _ (head + 1) _ (omega arith) ∙ take-set-le head _ head _ (omega arith)

pub returns-clause-behind : goal.returns-clause-behind
returns-clause-behind c =
    let head = 16 + 16 * c.args.block in
    let end = head_of (c.args.block + 1) in
    last_behind c.put_eight.new.bytes c.put_four.new.bytes (head + 8 + 8) c.put_eight.ensures.behind end (omega arith)
    ∙ last_behind c.put_four.new.bytes _ (head + 4 + 4) c.put_four.ensures.behind end (omega arith)
    ∙ drop-set-lt end _ (head + 3) _ (omega arith) ∙ drop-set-lt end _ (head + 2) _ (omega arith)
    ∙ drop-set-lt end _ (head + 1) _ (omega arith) ∙ drop-set-lt end _ head _ (omega arith)

pub returns-clause-form : goal.returns-clause-form
returns-clause-form c =
    let head = 16 + 16 * c.args.block in
    let form : c.from.result ≡ (if c.args.differences then 1 else 0) = search rules in
    byte_before c.put_eight.new.bytes c.put_four.new.bytes (head + 8) c.put_eight.ensures.before head (omega arith)
    ∙ byte_before c.put_four.new.bytes _ (head + 4) c.put_four.ensures.before head (omega arith)
    ∙ first c.args.page.now head c.from.result c.args.width (omega arith) ∙ form

pub returns-clause-width : goal.returns-clause-width
returns-clause-width c =
    let head = 16 + 16 * c.args.block in
    byte_before c.put_eight.new.bytes c.put_four.new.bytes (head + 8) c.put_eight.ensures.before (head + 1) (omega arith)
    ∙ byte_before c.put_four.new.bytes _ (head + 4) c.put_four.ensures.before (head + 1) (omega arith)
    ∙ second c.args.page.now head c.from.result c.args.width (omega arith)

pub returns-clause-spare : goal.returns-clause-spare
returns-clause-spare c =
    let head = 16 + 16 * c.args.block in
    number_before c.put_eight.new.bytes c.put_four.new.bytes (head + 8) c.put_eight.ensures.before 2 (head + 2) (omega arith)
    ∙ number_before c.put_four.new.bytes _ (head + 4) c.put_four.ensures.before 2 (head + 2) (omega arith)
    ∙ spare c.args.page.now head c.from.result c.args.width (omega arith)

pub returns-clause-place : goal.returns-clause-place
returns-clause-place c =
    let head = 16 + 16 * c.args.block in
    number_before c.put_eight.new.bytes c.put_four.new.bytes (head + 8) c.put_eight.ensures.before 4 (head + 4) (omega arith)
    ∙ c.put_four.ensures.number

pub returns-clause-reference : goal.returns-clause-reference
returns-clause-reference c = c.put_eight.ensures.number
