use Rattle.std.proofs.Common.{◌≡◌, ◌+◌, ◌*◌, ◌/◌, ◌%◌, arith}
use Rattle.fastlanes_checksum.proofs.Products.{table_at}
use Rattle.fastlanes_checksum.proofs.by_table.Goals as goal

pub returns : goal.returns
returns c =
    let row : (256 * c.args.k + c.args.byte) / 256 ≡ c.args.k = omega arith in
    let place : (256 * c.args.k + c.args.byte) % 256 ≡ c.args.byte = omega arith in
    rw (row, place) at (table_at (256 * c.args.k + c.args.byte) (omega arith))
