use Rattle.std.proofs.Common.{◌≡◌, ◌+◌, ◌-◌, ◌*◌, ◌<◌, ap, arith, length, min, refl, rules, take}
use Rattle.fastlanes_pages.specs.Masks.{holds_of}
use Rattle.fastlanes_pages.proofs.MaskParts.{all_told, tells_more}
use Rattle.fastlanes_pages.proofs.ToldHeads.{told_more, told_most}
use Rattle.fastlanes_pages.specs.ColumnValues.{column_values}
use Rattle.fastlanes_pages.proofs.opened.Opened.filter.Goals as goal
use borrow.Rule.Slice.PartMut.{put_mid}

pub parts-init : goal.parts-init
parts-init g c = record { told = refl; long = search rules; tells = search rules }

pub overflow_add-told : goal.overflow_add-told
overflow_add-told g c =
    let l = c.parts in
    omega (arith, l.invariant.told, told_most g.E.MachineWord.T c.args.self.now.bytes.now (g.E.MachineWord.number c.args.value) l.number)

pub parts-preserved : goal.parts-preserved
parts-preserved g c =
    let l = c.parts in
    let values = column_values g.E.MachineWord.T g.E.MachineWord.LANES c.args.self.now.bytes.now in
    let test = holds_of c.args.comparison (g.E.MachineWord.number c.args.value) in
    let n = l.number in
    let end = c.min-end.result in
    let is : end ≡ min (length l.mask) (16 * n + 16) = search rules in
    let within : 16 * n < length l.mask = omega (arith, l.invariant.long, c.blocks-number-end.ensures) in
    let start : min (16 * n) (length l.mask) ≡ 16 * n = omega (arith, within) in
    let part = c.filter.new.mask in
    let same : c.copy_from_slice.new.self ≡ take (end - 16 * n) part = search rules in
    let long : length (put_mid (16 * n) (end - 16 * n) l.mask (take (end - 16 * n) part)) ≡ length l.mask = search rules in
    let next : min (16 * (n + 1)) (length l.mask) ≡ end = omega (arith, is) in
    let tells = rw (ap (λ b. b.values) c.block-block.ensures) at c.filter.ensures.mask in
    let before = rw start at l.invariant.tells in
    record {
      told =
          let more = told_more g.E.MachineWord.T c.args.self.now.bytes.now (g.E.MachineWord.number c.args.value) n in
          let here = rw (ap (λ b. b.head) c.block-block.ensures) at c.filter.ensures.told in
          search rules;
      long = rw (same, long) l.invariant.long;
      tells = rw (same, long, next) (tells_more test values l.mask part n end (omega (arith, within)) is (search rules) tells before);
    }

pub returns-clause-mask : goal.returns-clause-mask
returns-clause-mask g c =
    let l = c.parts in
    let values = column_values g.E.MachineWord.T g.E.MachineWord.LANES c.args.self.now.bytes.now in
    let test = holds_of c.args.comparison (g.E.MachineWord.number c.args.value) in
    let all : min (16 * l.number) (length l.mask) ≡ length l.mask = omega (arith, l.invariant.long, c.blocks-number-end.ensures) in
    all_told test values l.mask l.invariant.long (rw all at l.invariant.tells)

pub returns-clause-most : goal.returns-clause-most
returns-clause-most g c =
    let l = c.parts in
    omega (arith, l.invariant.told, told_most g.E.MachineWord.T c.args.self.now.bytes.now (g.E.MachineWord.number c.args.value) l.number, c.blocks-number-end.ensures)
