use Rattle.std.proofs.Common.{◌≡◌, ◌∙◌, ap, map, pos, rules, sym}
use Rattle.std.proofs.lemmas.List.{length-map}
use Rattle.fastlanes.specs.Digits.{digit}
use Rattle.fastlanes_pages.proofs.FrameMasks.{mask_of_digits}
use Rattle.fastlanes_pages.proofs.FrameWords.{whole_digit}
use Rattle.fastlanes_pages.proofs.element.AnyStored.filter_values.Goals as goal

pub returns : goal.returns
returns g c =
    let number = g.E.FastLanes.number in
    let value = c.args.value in
    let words = map number c.unchecked_for_pack.new.output in
    let none : number c.zero.result ≡ 0 = ap number c.zero.ensures ∙ g.met.E.FastLanes.zero_number_law in
    let is : g.E.Ordered.value value ≡ pos (number value) =
    sym (ap g.E.Ordered.value (g.met.E.Element.unpacked_law value)) ∙ g.met.E.Ordered.integer_law value ∙ g.met.E.Packed.integer_number_law (number value) in
    mask_of_digits g.E.Ordered.integer c.args.comparison (g.E.Ordered.value value) (number value) (digit g.E.FastLanes.T g.E.FastLanes.LANES c.T-2.result words)
    (map number c.args.values.now) c.filter.new.mask g.met.E.Packed.integer_number_law is (search rules) (length-map c.args.values.now number ∙ search rules)
    c.filter.ensures
    (λ i inside. whole_digit _ _ _ _ _ _ words i c.T.ensures c.T-2.ensures none (c.unchecked_for_pack.ensures.comes_back i inside).1)
