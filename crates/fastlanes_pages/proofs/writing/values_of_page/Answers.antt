use Rattle.std.proofs.Common.{◌*◌, length}
use Rattle.std.specs.List.{between}
use Rattle.fastlanes_pages.proofs.PageParts.{part_left, whole_part}
use Rattle.fastlanes_pages.proofs.writing.values_of_page.Goals as goal

pub returns-then-rest-lt65536-clause-part : goal.returns-then-rest-lt65536-clause-part
returns-then-rest-lt65536-clause-part g c = part_left c.args.values.now c.args.page c.requires c.if-rest-lt65536.true

pub returns-else-rest-lt65536-clause-some : goal.returns-else-rest-lt65536-clause-some
returns-else-rest-lt65536-clause-some g c =
    (whole_part (between (65536 * c.args.page) (length c.args.values.now) c.args.values.now) c.if-rest-lt65536.false).0

pub returns-else-rest-lt65536-clause-most : goal.returns-else-rest-lt65536-clause-most
returns-else-rest-lt65536-clause-most g c =
    (whole_part (between (65536 * c.args.page) (length c.args.values.now) c.args.values.now) c.if-rest-lt65536.false).1
