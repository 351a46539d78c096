use Rattle.std.proofs.Common.{ap, ◌∙◌, ◌++◌, arith}
use Rattle.std.proofs.lemmas.List.{append-nil, drop_all}
use Rattle.fastlanes_base.proofs.meter.set_row.Goals as goal

-- the row is all that there is
pub returns-in-Some : goal.returns-in-Some
returns-in-Some g c =
    let row = c.args.row.now in
    ap (λ rest. row ++ rest) (drop_all _ c.args.output.now (omega (arith, c.requires))) ∙ append-nil row
