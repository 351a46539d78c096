use Rattle.std.proofs.Common.{◌≡◌, ℕ, ◌*◌, List, arith, length, min, subst}
use Rattle.std.specs.List.{between}
use Rattle.fastlanes_pages.proofs.BlockParts.{begins_with, filled_with}
use Rattle.fastlanes_pages.specs.Shortest.{IsShortest}
use Rattle.fastlanes_pages.proofs.writing.write_short_part.Goals as goal
use Rattle.fastlanes_pages.proofs.writing.write_short_part.Goals.{else-part-lt1024, then-part-lt1024}

pub returns : goal.returns
returns g c =
    let number = g.E.MachineWord.number in
    let values = c.args.values.now in
    let count = c.if-part-lt1024.count in
    let copied = c.copy_from_slice in
    let written = c.write_block.ensures in
    let fits : count ≡ min (length (between (1024 * c.args.number) (length values) values)) 1024 = elim c.if-part-lt1024.branch [
      | then-part-lt1024 w ↦ omega (arith, w.count-is)
      | else-part-lt1024 w ↦ omega (arith, w.count-is)
    ] in
    record {
      put = written.put;
      most = written.most;
      shortest = subst (λ (v : List ℕ). IsShortest g.E.MachineWord.T c.args.frames_only c.write_block.new.page c.args.number v)
          (filled_with number values copied.new.self c.args.number count c.requires.some fits copied.ensures.after c.index-part-count.result _ c.index-part-count.is)
          written.shortest;
      begins = record {
        whole = _;
        holds = written.holds;
        begins = begins_with number values copied.new.self c.args.number count c.requires.some fits copied.ensures.after _;
      };
    }
