use Rattle.std.proofs.Common.{◌≡◌, ℕ, ◌+◌, ◌-◌, ◌*◌, ◌∙◌, ap, arith, length, map, pos, rules, subst, sym}
use Rattle.std.proofs.lemmas.List.{length-map}
use Rattle.fastlanes.specs.Digits.{digit}
use Rattle.fastlanes_pages.specs.ColumnValues.{frame_values, words_in}
use Rattle.fastlanes_pages.specs.Masks.{IsMask, holds_of}
use Rattle.fastlanes_pages.proofs.FrameMasks.{mask_of_sums}
use Rattle.fastlanes_pages.proofs.FrameWords.{count_values, difference_is, sum_is}
use Rattle.fastlanes_pages.proofs.WordPlaces.{words_are}
use Rattle.fastlanes_pages.proofs.element.AnyStored.filter_digits.Goals as goal

pub returns : goal.returns
returns g c =
    let t = g.E.FastLanes.T in
    let lanes = g.E.FastLanes.LANES in
    let number = g.E.FastLanes.number in
    let width = c.args.width in
    let value = number c.args.value in
    let r = number c.args.reference in
    let rest = c.word_sub.result in
    let bytes = c.args.bytes.now in
    let words = map number c.read_words.new.words in
    let values = frame_values t lanes width r bytes in
    let has = c.read_words.ensures.words in
    let count : length c.read_words.new.words ≡ lanes * width = search rules in
    let same : words ≡ words_in t (lanes * width) bytes =
    words_are t g.met.E.FastLanes.bits_law (lanes * width) words bytes
    (record { whole = length-map c.read_words.new.words number ∙ count; below = has.below; same = has.same }) in
    let above : number rest ≡ value - r = c.word_sub.ensures.value ∙ difference_is t value r c.word_sub.ensures.below c.requires.value in
    let is : g.E.Ordered.value rest ≡ pos (value - r) =
    sym (ap g.E.Ordered.value (g.met.E.Element.unpacked_law rest)) ∙ g.met.E.Ordered.integer_law rest ∙ g.met.E.Packed.integer_number_law (number rest) ∙ ap pos above in
    let back : value - r + r ≡ value = omega (arith, c.requires.value) in
    let mask = mask_of_sums g.E.Ordered.integer c.args.comparison (g.E.Ordered.value rest) (value - r) (digit t lanes width words) values c.filter.new.mask
    g.met.E.Packed.integer_number_law is (search rules) (count_values t lanes width r bytes) c.filter.ensures r
    (λ i inside. sum_is t lanes width r bytes i inside c.requires.sum ∙ ap (λ p. digit t lanes width p i + r) (sym same)) in
    subst (λ (n : ℕ). IsMask (holds_of c.args.comparison n) values c.filter.new.mask) back mask
