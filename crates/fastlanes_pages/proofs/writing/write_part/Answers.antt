use Rattle.std.proofs.Common.{◌≡◌, ℕ, ◌*◌, List, arith, length, min, refl, subst}
use Rattle.std.specs.List.{between}
use Rattle.fastlanes_pages.proofs.BlockParts.{begins_whole, filled_whole}
use Rattle.fastlanes_pages.specs.Shortest.{IsShortest}
use Rattle.fastlanes_pages.proofs.writing.write_part.Goals as goal

pub returns-in-Some-clause-shortest : goal.returns-in-Some-clause-shortest
returns-in-Some-clause-shortest g c =
    let number = g.E.MachineWord.number in
    let values = c.args.values.now in
    let chunk = c.in-Some.ensures.cases in
    let fits : 1024 ≡ min (length (between (1024 * c.args.number) (length values) values)) 1024 = omega (arith, chunk.enough) in
    subst (λ (v : List ℕ). IsShortest g.E.MachineWord.T c.args.frames_only c.write_block.new.page c.args.number v)
    (filled_whole number values c.in-Some.block.now c.args.number 1024 c.requires.some fits chunk.same refl) c.write_block.ensures.shortest

pub returns-in-Some-clause-begins : goal.returns-in-Some-clause-begins
returns-in-Some-clause-begins g c =
    let number = g.E.MachineWord.number in
    let values = c.args.values.now in
    let chunk = c.in-Some.ensures.cases in
    let fits : 1024 ≡ min (length (between (1024 * c.args.number) (length values) values)) 1024 = omega (arith, chunk.enough) in
    record {
      whole = _;
      holds = c.write_block.ensures.holds;
      begins = begins_whole number values c.in-Some.block.now c.args.number 1024 c.requires.some fits chunk.same;
    }
