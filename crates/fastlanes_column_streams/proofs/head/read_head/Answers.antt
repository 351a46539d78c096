use Rattle.std.proofs.Common.{◌≡◌, ℕ, ◌<◌, ◌≤◌, ◌++◌, ◌∙◌, List, [], ap, arith, inl, inr, length, rules, subst, sym, take}
use Rattle.std.proofs.lemmas.Bool.{cases_lt}
use Rattle.std.proofs.lemmas.List.{append-nil, length-take-le, take-append-le, take_all}
use Rattle.fastlanes_format.specs.Format.{IsColumnHead}
use Rattle.fastlanes_column_streams.proofs.head.read_head.Goals as goal

pub returns-in-Ok-clause-gives : goal.returns-in-Ok-clause-gives
returns-in-Ok-clause-gives g c = λ told.
    let count = c.in_ok-count.count in
    let bytes = take count c.fill.new.buffer in
    let long : length c.fill.new.buffer ≡ 8 = search rules in
    let few : length bytes ≤ 8 = omega (arith, long, length-take-le count c.fill.new.buffer c.in_ok-count.ensures.within, c.in_ok-count.ensures.within) in
    record {
      head = bytes;
      gives = c.in_ok-count.ensures.gives told;
      is = subst (IsColumnHead c.unwrap_or-bits.result c.in-Ok.checked) (take_all 8 bytes few) c.in-Ok.ensures.head;
    }

-- the first bytes of a source, of which so many came
head_same : (count : ℕ) (buffer rest : List ℕ) → length buffer ≡ 8 → count ≤ 8 → (count < 8 → rest ≡ [])
    → take 8 (take count buffer ++ rest) ≡ take 8 (take count buffer)
head_same count buffer rest long within ended =
    let head = take count buffer in
    let many = length-take-le count buffer (omega (arith, long, within)) in
    elim (cases_lt count 8) [
      | inl short ↦ ap (take 8) (ap (λ r. head ++ r) (ended short) ∙ append-nil head)
      | inr full ↦ take-append-le 8 head rest (omega (arith, many, full))
    ]

pub returns-in-Err-clause-refuses : goal.returns-in-Err-clause-refuses
returns-in-Err-clause-refuses g c = λ told bits checked is.
    let count = c.in_ok-count.count in
    let buffer = c.fill.new.buffer in
    let long : length buffer ≡ 8 = search rules in
    let within : count ≤ 8 = omega (arith, long, c.in_ok-count.ensures.within) in
    let rest = (g.I.ByteIn.source c.fill.new.input).left in
    let ended : count < 8 → rest ≡ [] = λ few. c.in_ok-count.ensures.ended told (omega (arith, long, few)) in
    let same : take 8 (g.I.ByteIn.source c.args.input.now).left ≡ take 8 (take count buffer) =
    ap (take 8) (c.in_ok-count.ensures.gives told).left ∙ head_same count buffer rest long within ended in
    let head : IsColumnHead bits checked (take 8 (take count buffer)) = subst (IsColumnHead bits checked) same is in
    let some = c.element_bits.ensures.bits bits checked head in
    let size : c.unwrap_or-bits.result ≡ bits = search rules in
    c.in-Err.ensures.other checked (subst (λ n. IsColumnHead n checked (take 8 (take count buffer))) (sym size) head)
