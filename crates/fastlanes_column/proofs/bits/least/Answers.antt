use Rattle.std.proofs.Common.{◌≡◌, ◌<◌, ◌≤◌, length, map, get_or, ap, sym, ◌∙◌, arith}
use Rattle.std.proofs.lemmas.List.{get_or-map, length-map}
use Rattle.fastlanes_column.proofs.WidthBounds.{below_all, least_keeps, least_of_all, least_takes}
use Rattle.fastlanes_column.proofs.bits.least.Goals as goal
use Rattle.fastlanes_column.proofs.bits.least.Goals.{then-less, else-less}

pub loop-word-preserved : goal.loop-word-preserved
loop-word-preserved g c =
    let number = g.E.MachineWord.number in
    let words = c.args.words.now in
    let word = c.word-item.result in
    let is : get_or (map number words) c.loop-word.word-index 0 ≡ number word =
    get_or-map number words c.loop-word.word-index word 0 c.loop-word-test.true ∙ ap number (sym c.word-item.is)
    in
    let inside : c.loop-word.word-index < length (map number words) = rw length-map c.loop-word-test.true in
    elim c.if-less.branch [
      | then-less w ↦
          let less : number word < number c.loop-word.least = grind arith in
          rw w.least-is (least_takes _ _ _ _ _ c.loop-word.invariant inside is c.less.ensures.below less)
      | else-less w ↦
          let more : number c.loop-word.least ≤ number word = grind arith in
          rw w.least-is (least_keeps _ _ _ _ _ c.loop-word.invariant inside is c.less.ensures.below more)
    ]

pub returns-clause-value : goal.returns-clause-value
returns-clause-value g c = least_of_all _ _ _ _ c.loop-word.invariant (rw length-map c.loop-word-test.false)

pub returns-clause-below : goal.returns-clause-below
returns-clause-below g c = below_all _ _ _ _ c.loop-word.invariant (rw length-map c.loop-word-test.false)
