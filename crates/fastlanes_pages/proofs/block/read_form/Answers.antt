use Rattle.std.proofs.Common.{arith, map, rules, sym}
use Rattle.std.proofs.lemmas.List.{length-drop, length-take-le, take_rest}
use Rattle.fastlanes_pages.proofs.BlockValues.{frame_is, sums_is}
use Rattle.fastlanes_pages.proofs.block.read_form.Goals as goal

pub slice_bounds-read_sums-end : goal.slice_bounds-read_sums-end
slice_bounds-read_sums-end g c =
    let whole = rw c.if-differences.true at c.requires.whole in
    sym (length-take-le 128 c.args.bytes.now (omega (arith, whole)))

pub read_sums-requires : goal.read_sums-requires
read_sums-requires g c =
    let whole = rw c.if-differences.true at c.requires.whole in (
      search rules,
      (
        c.requires.fits,
        (
          length-take-le 128 c.args.bytes.now (omega (arith, whole)),
          rw (take_rest c.args.bytes.now 128, length-drop 128 c.args.bytes.now) (omega (arith, whole)),
        ),
      ),
    )

pub returns-then-differences-clause-sums : goal.returns-then-differences-clause-sums
returns-then-differences-clause-sums g c = λ _. rw (take_rest c.args.bytes.now 128) at c.read_sums.ensures

pub returns-then-differences-clause-values : goal.returns-then-differences-clause-values
returns-then-differences-clause-values g c =
    let t = g.E.MachineWord.T in
    rw c.if-differences.true
    (sums_is t g.E.MachineWord.LANES g.met.E.MachineWord.bits_law c.args.width c.args.bytes.now (map g.E.MachineWord.number c.read_sums.new.output)
    (rw (take_rest c.args.bytes.now 128) at c.read_sums.ensures))

pub returns-else-differences-clause-values : goal.returns-else-differences-clause-values
returns-else-differences-clause-values g c =
    let t = g.E.MachineWord.T in
    let frame = rw c.of_number.ensures at c.read_frame.ensures in
    rw c.if-differences.false
    (frame_is t g.E.MachineWord.LANES g.met.E.MachineWord.bits_law c.args.width c.args.reference c.args.bytes.now (map g.E.MachineWord.number c.read_frame.new.output) frame)
