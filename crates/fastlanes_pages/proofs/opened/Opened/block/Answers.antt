use Rattle.std.proofs.Common.{◌≡◌, ◌-◌, ◌*◌, ◌/◌, ◌<◌, ◌∙◌, arith, min, rules, subst, sym}
use Rattle.fastlanes_format.specs.Format.{IsPage, count_of}
use Rattle.fastlanes_format.proofs.PagePlaces.{page_at}
use Rattle.fastlanes_pages.proofs.ColumnParts.{block_same, block_there, values_count}
use Rattle.fastlanes_pages.proofs.opened.Opened.block.Goals as goal

pub page_of-page-requires-clause-there : goal.page_of-page-requires-clause-there
page_of-page-requires-clause-there g c =
    omega (arith, c.requires.number, values_count g.E.MachineWord.T g.E.MachineWord.LANES c.args.self.now.bytes.now)

pub overflow_mul-number : goal.overflow_mul-number
overflow_mul-number g c =
    omega (arith, c.requires.number, values_count g.E.MachineWord.T g.E.MachineWord.LANES c.args.self.now.bytes.now, c.requires.opened.count)

pub overflow_sub-self : goal.overflow_sub-self
overflow_sub-self g c =
    omega (arith, c.requires.number, values_count g.E.MachineWord.T g.E.MachineWord.LANES c.args.self.now.bytes.now, c.requires.opened.count)

pub of_page-requires-clause-page : goal.of_page-requires-clause-page
of_page-requires-clause-page g c =
    let t = g.E.MachineWord.T in
    let column = c.requires.opened.is in
    let some : 1024 * c.args.number < count_of c.args.self.now.bytes.now =
    omega (arith, c.requires.number, values_count t g.E.MachineWord.LANES c.args.self.now.bytes.now) in
    let here = page_at t c.args.self.now.bytes.now column (c.args.number / 64) (omega (arith, some)) in
    (column.checked, subst (IsPage t column.checked) (sym c.page_of-page.ensures) here.is)

pub of_page-requires-clause-block : goal.of_page-requires-clause-block
of_page-requires-clause-block g c =
    let t = g.E.MachineWord.T in
    let some : 1024 * c.args.number < count_of c.args.self.now.bytes.now =
    omega (arith, c.requires.number, values_count t g.E.MachineWord.LANES c.args.self.now.bytes.now) in
    rw c.page_of-page.ensures (block_there t c.args.self.now.bytes.now c.requires.opened.is c.args.number some)

pub returns : goal.returns
returns g c =
    let is : c.min-len.result ≡ min (c.args.self.now.len - 1024 * c.args.number) 1024 = search rules in
    c.of_page.ensures
    ∙ block_same g.E.MachineWord.T g.E.MachineWord.LANES c.args.self.now.bytes.now _ c.args.number c.min-len.result c.page_of-page.ensures c.requires.number
    (omega (arith, is, c.requires.opened.count))
