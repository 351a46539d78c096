use Rattle.std.proofs.Common.{◌<◌, ◌≡◌, ◌*◌, ◌/◌, ◌+◌, ◌%◌, ℕ, add-zero, ap, map, slice_index, sym, arith, zero-add, ◌∙◌}
use Rattle.std.proofs.Math.Nat.{add-mul-mod_self_right, mod-one, mul-div_cancel, zero-mod}
use Rattle.fastlanes_rows.proofs.RowDigits.{read_one}
use Rattle.fastlanes_packing.proofs.Counts.{reads_none}
use Rattle.fastlanes_packing.proofs.lane.probe_digit.Goals as goal

pub returns-then-width-eq0-clause-digit : goal.returns-then-width-eq0-clause-digit
returns-then-width-eq0-clause-digit g c = rw c.if-width-eq0.true (c.zero.ensures ∙ sym (mod-one _))

pub returns-then-width-eq0-clause-probe : goal.returns-then-width-eq0-clause-probe
returns-then-width-eq0-clause-probe g c = ap (λ (k : ℕ). record c.args.probe.now { count = k })
    (sym (ap (λ (k : ℕ). c.args.probe.now.count + k) (reads_none _ _ _ c.if-width-eq0.true) ∙ add-zero _))

pub returns-clause-digit : goal.returns-clause-digit
returns-clause-digit g c =
    let t = g.E.MachineWord.T in
    let row = c.args.row in
    let words = map g.E.MachineWord.number c.args.probe.now.words in
    let some : 0 < t = omega arith in
    let full : c.args.width ≡ t = omega arith in
    let start : row * t % t ≡ 0 = simp (zero-add, zero-mod) at (add-mul-mod_self_right 0 row t) in
    let place : row * t / t ≡ row = mul-div_cancel row some in
    let first : slice_index words (g.E.MachineWord.LANES * (row * t / t) + c.args.probe.now.lane) ≡ g.E.MachineWord.number c.word.result = rw place (sym c.word.ensures.word) in
    let read = read_one t g.E.MachineWord.LANES t c.args.probe.now.lane row words _ some c.requires.row some (rw start (omega arith)) first c.digit_of_word.ensures.below in
    rw full ((rw c.T-2.ensures at c.digit_of_word.ensures.value) ∙ (rw start at read))
