use Rattle.std.proofs.Common.{◌≡◌, ◌+◌, ◌-◌, ◌*◌, ◌/◌, ◌%◌, ◌∙◌, ap, arith, drop, length, map, min, rules, sym, take}
use Rattle.std.proofs.lemmas.List.{length-drop, length-take, take_all}
use Rattle.fastlanes_pages.proofs.ColumnParts.{block_piece, read_more, values_count}
use Rattle.fastlanes_pages.specs.ColumnValues.{column_values}
use Rattle.fastlanes_pages.proofs.opened.Opened.read.Goals as goal

pub overflow_add-place : goal.overflow_add-place
overflow_add-place g c =
    omega (arith, c.requires.opened.count, values_count g.E.MachineWord.T g.E.MachineWord.LANES c.args.self.now.bytes.now, c.requires.inside, c.parts-test.true)

pub block-block-requires-clause-number : goal.block-block-requires-clause-number
block-block-requires-clause-number g c = omega (arith, c.requires.inside, c.parts-test.true)

pub read-requires : goal.read-requires
read-requires g c =
    let l = c.parts in
    let values = column_values g.E.MachineWord.T g.E.MachineWord.LANES c.args.self.now.bytes.now in
    let place = c.args.from + l.done in
    let k = c.min.result in
    let end = l.done + k in
    let is : k ≡ min (1024 - place % 1024) (length l.output - l.done) = search rules in
    let long : length (take (end - l.done) (drop l.done l.output)) ≡ end - l.done = search rules in
    let block = length-take 1024 (drop (1024 * (place / 1024)) values) in
    let behind = length-drop (1024 * (place / 1024)) values in
    rw (ap (λ b. b.values) c.block-block.ensures) (omega (arith, is, long, block, behind, c.requires.inside, c.parts-test.true))

pub parts-preserved : goal.parts-preserved
parts-preserved g c =
    let l = c.parts in
    let values = column_values g.E.MachineWord.T g.E.MachineWord.LANES c.args.self.now.bytes.now in
    let number = g.E.MachineWord.number in
    let place = c.args.from + l.done in
    let k = c.min.result in
    let end = l.done + k in
    let is : k ≡ min (1024 - place % 1024) (length l.output - l.done) = search rules in
    let long : length (take (end - l.done) (drop l.done l.output)) ≡ end - l.done = search rules in
    let ys = c.read.new.output in
    let count : length ys ≡ end - l.done = c.read.ensures.length ∙ long in
    let next : map number ys ≡ take (end - l.done) (drop place values) =
    rw (long, ap (λ b. b.values) c.block-block.ensures) at c.read.ensures.values ∙ block_piece values place (end - l.done) (omega (arith, is)) in
    record {
      done = search rules;
      so_far = read_more number l.output ys values c.args.from l.done end (omega (arith, is, c.parts-test.true)) l.invariant.done count l.invariant.so_far next;
    }

pub returns-clause-values : goal.returns-clause-values
returns-clause-values g c =
    let l = c.parts in
    let all : l.done ≡ length l.output = omega (arith, l.invariant.done, c.parts-test.false) in
    ap (map g.E.MachineWord.number) (sym (take_all l.done l.output (omega (arith, all)))) ∙ l.invariant.so_far ∙ search rules
