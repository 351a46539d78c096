use Rattle.std.proofs.Common.{◌≡◌, ◌+◌, ◌-◌, ◌++◌, drop, length, take, ◌∙◌, arith}
use Rattle.std.proofs.lemmas.List.{drop-drop}
use Rattle.fastlanes_rows.proofs.RowsStored.{stored_row}
use Rattle.fastlanes_rows.proofs.block_rows.store.Goals as goal

pub returns : goal.returns
returns g c =
    let to = c.args.to in
    let output = c.args.output.now in
    let row = c.put.new.words in
    let size : to + c.N.result - to ≡ length row = omega (arith, c.put.ensures.long, c.N.ensures) in
    let rest : drop (to + c.N.result - to) (drop to output) ≡ drop (to + length row) output = drop-drop (to + c.N.result - to) to output ∙ (λ i. drop (to + size i) output) in
    stored_row {X = g.row.E.Denot} g.E.MachineWord.number g.V.RowVector.N to (g.V.RowVector.at c.args.row) row output _ c.put.ensures.long (omega (arith, c.requires)) c.put.ensures.each (λ i. take to output ++ (row ++ rest i))
