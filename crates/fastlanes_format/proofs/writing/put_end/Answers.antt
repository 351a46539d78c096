use Rattle.std.proofs.Common.{◌≡◌, ◌∙◌, ◌++◌, ap, arith, drop, length, subst, sym, take}
use Rattle.std.proofs.Math.Seq.{take-append_seam}
use Rattle.std.proofs.lemmas.List.{length-take-le}
use Rattle.std.proofs.lemmas.Slice.{drop-append-drop}
use Rattle.fastlanes_format.specs.Format.{IsEnd}
use Rattle.fastlanes_format.proofs.NumbersKept.{number_before, number_behind}
use Rattle.fastlanes_format.proofs.writing.put_end.Goals as goal

pub put_eight-requires : goal.put_eight-requires
put_eight-requires c = omega (arith, length-take-le 24 c.args.bytes.now c.requires)

pub seal_page-requires-clause-head : goal.seal_page-requires-clause-head
seal_page-requires-clause-head c = omega (arith, length-take-le 24 c.args.bytes.now c.requires)

pub seal_page-requires-clause-most : goal.seal_page-requires-clause-most
seal_page-requires-clause-most c = omega (arith, length-take-le 24 c.args.bytes.now c.requires)

pub returns-clause-end : goal.returns-clause-end
returns-clause-end c =
    let end = c.seal_page.new.page in
    let whole : length end ≡ 24 = omega (arith, length-take-le 24 c.args.bytes.now c.requires) in
    let len = c.seal_page.ensures.len in
    let is : IsEnd c.args.checked c.args.values end = record {
      check = c.seal_page.ensures.check;
      none =
          c.seal_page.ensures.values
          ∙ number_before c.put_eight.new.bytes c.put_four.new.bytes 16 c.put_eight.ensures.before 4 4 (omega arith)
          ∙ c.put_four.ensures.number;
      len = omega arith;
      spare = c.seal_page.ensures.spare;
      whole = whole;
      all =
          number_behind end c.put_eight.new.bytes 16 c.seal_page.ensures.behind 8 16 (omega arith)
          ∙ c.put_eight.ensures.number;
    } in
    let rest = drop 24 c.args.bytes.now in
    let first : take 24 (end ++ rest) ≡ end = ap (λ n. take n (end ++ rest)) (sym whole) ∙ take-append_seam end rest in
    subst (IsEnd c.args.checked c.args.values) (sym first) is

pub returns-clause-behind : goal.returns-clause-behind
returns-clause-behind c =
    let whole : length c.seal_page.new.page ≡ 24 = omega (arith, length-take-le 24 c.args.bytes.now c.requires) in
    drop-append-drop 24 c.args.bytes.now c.seal_page.new.page 24 (omega arith) whole
