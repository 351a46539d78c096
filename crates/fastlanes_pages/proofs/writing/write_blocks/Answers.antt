use Rattle.std.proofs.Common.{◌≡◌, ◌+◌, ◌∙◌, below_more, ap, arith, map, rules, suc, sym, take}
use Rattle.fastlanes_format.specs.Format.{block_place, head_of, values_of}
use Rattle.fastlanes_format.proofs.BlockPlaces.{heads_first}
use Rattle.fastlanes_format.proofs.HeadsKept.{head_same, heads_kept, place_same, values_kept}
use Rattle.fastlanes_format.proofs.NumbersKept.{last_behind}
use Rattle.fastlanes_pages.proofs.KeptBlocks.{begins_same, shortest_same}
use Rattle.fastlanes_pages.proofs.SealedPages.{place_behind}
use Rattle.fastlanes_pages.specs.Shortest.{filled_block}
use Rattle.fastlanes_pages.specs.Values.{block_part}
use Rattle.fastlanes_pages.proofs.writing.write_blocks.Goals as goal

pub loop-number-preserved : goal.loop-number-preserved
loop-number-preserved g c =
    let t = g.E.MachineWord.T in
    let lanes = g.E.MachineWord.LANES in
    let values = map g.E.MachineWord.number c.args.values.now in
    let l = c.loop-number in
    let w = c.write_part-place in
    let put = w.ensures.put in
    let new = w.new.page in
    let heads = head_of l.number in
    let kept = sym {a = take heads new} {b = take heads l.page} put.before in
    let counted : values_of l.page ≡ values_of new = values_kept l.page new heads kept (omega arith) in
    let same = heads_kept l.page new heads kept in
    let at : l.place ≡ block_place new l.number = l.invariant.place ∙ place_same l.page new heads counted same l.number (omega arith) in
    let after : l.number + 1 ≡ suc l.number = omega arith in
    let next : block_place new (l.number + 1) ≡ block_place new (suc l.number) = ap (block_place new) after in
    let first = heads_first l.page in
    let stay = sym put.between in
    record {
      whole = search rules;
      count = sym counted ∙ l.invariant.count;
      place = omega (arith, put.end, at, next);
      most = omega (arith, w.ensures.most, l.invariant.most);
      heads = below_more _ _ (λ block below. head_same l.page new heads counted same t block (omega arith) (l.invariant.heads block below)) put.is_head;
      begin = below_more _ _
          (λ block below.
          let here = first block in
          let to = place_behind l.page block l.number below in
          begins_same t lanes l.page new heads (head_of (l.number + 1)) l.place counted same stay block (block_part values block) (omega arith)
          (omega (arith, here, l.invariant.count)) (omega (arith, to, l.invariant.place)) (l.invariant.begin block below))
          w.ensures.begins;
      shortest = below_more _ _
          (λ block below.
          let here = first block in
          let to = place_behind l.page block l.number below in
          shortest_same t lanes l.page new heads (head_of (l.number + 1)) l.place counted same stay c.args.frames_only block (filled_block values block) (omega arith)
          (omega (arith, here, l.invariant.count)) (omega (arith, to, l.invariant.place)) (l.invariant.shortest block below))
          w.ensures.shortest;
      behind =
          put.behind
          ∙ last_behind l.page _ l.place l.invariant.behind w.result (omega (arith, put.end));
    }

pub write_part-place-requires-clause-place : goal.write_part-place-requires-clause-place
write_part-place-requires-clause-place g c =
    let l = c.loop-number in
    let first = heads_first l.page l.number in
    record { heads = omega (arith, first, l.invariant.place, l.invariant.count); at = l.invariant.place; most = search rules }

pub returns-clause-behind : goal.returns-clause-behind
returns-clause-behind g c =
    let l = c.loop-number in
    let first = heads_first l.page l.number in
    l.invariant.behind ∙ last_behind c.put_values.new.page c.args.page.now 8 c.put_values.ensures.behind l.place (omega (arith, first, l.invariant.place))
