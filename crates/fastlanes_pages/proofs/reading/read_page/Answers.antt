use Rattle.std.proofs.Common.{◌-◌, ◌*◌, ◌∙◌, arith, below_more, map, refl, rules, subst, sym}
use Rattle.std.proofs.lemmas.List.{length-map}
use Rattle.fastlanes_pages.specs.Values.{BeginsBlock, block_part}
use Rattle.fastlanes_pages.proofs.Parts.{part_kept, part_put}
use Rattle.fastlanes_pages.proofs.reading.read_page.Goals as goal
use borrow.Rule.Slice.PartMut.{put_mid}

pub loop-block-preserved : goal.loop-block-preserved
loop-block-preserved g c =
    let number = g.E.MachineWord.number in
    let l = c.loop-block in
    let start = 1024 * l.block in
    let end = c.min-end.result in
    let part = c.read_part.new.part in
    below_more (λ b. BeginsBlock g.E.MachineWord.T g.E.MachineWord.LANES c.args.page.now b (block_part (map number (put_mid start (end - start) l.output part)) b)) l.block
    (λ b before. subst (BeginsBlock g.E.MachineWord.T g.E.MachineWord.LANES c.args.page.now b)
    (sym (part_kept number l.output part start end b (omega arith) (omega arith))) (l.invariant b before))
    (subst (BeginsBlock g.E.MachineWord.T g.E.MachineWord.LANES c.args.page.now l.block)
    (sym (part_put number l.output part start end l.block refl (omega arith) (search rules) (search rules) (search rules))) c.read_part.ensures.values)

pub returns-clause-values : goal.returns-clause-values
returns-clause-values g c = λ checked is. record {
  is = is;
  count = length-map c.loop-block.output g.E.MachineWord.number ∙ search rules;
  blocks = λ block within. c.loop-block.invariant block (omega arith);
}
