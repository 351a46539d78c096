use Rattle.std.proofs.Common.{◌≡◌, ℕ, ◌<◌, ◌≤◌, ◌^◌, ◌∙◌, ap, arith, below_more, count_ones, length, rules, sum_by, take}
use Rattle.std.proofs.lemmas.List.{take_all}
use Rattle.std.proofs.lemmas.List.Sums.{sum_by_more}
use Rattle.std.proofs.lemmas.Nat.{ones-le}
use Rattle.std.specs.List.{slice_index}
use Rattle.fastlanes.specs.Bits.{IsBitBlock}
use Rattle.fastlanes_pages.proofs.MaskBits.{ones_counted}
use Rattle.fastlanes_pages.proofs.masks.count_mask.Goals as goal

pub loop-k-preserved : goal.loop-k-preserved
loop-k-preserved c =
    let l = c.loop-k in
    let mask = c.args.mask.now in
    let inside : l.k < length mask = omega (arith, c.told-mask, c.loop-k-test.true) in
    let small : slice_index mask l.k < 2 ^ 64 = search rules in
    let few : count_ones (slice_index mask l.k) ≤ 64 = ones-le 64 (slice_index mask l.k) small in
    record {
      sum = omega (arith, sum_by_more count_ones mask l.k 0 inside, l.invariant.sum);
      few = omega (arith, few, l.invariant.few);
      small = below_more (λ (k : ℕ). slice_index mask k < 2 ^ 64) l.k l.invariant.small small;
    }

pub returns : goal.returns
returns c = λ test values is.
    let mask = c.args.mask.now in
    let all : c.loop-k.k ≡ 16 = omega arith in
    let block : IsBitBlock mask = record { long = c.told-mask; small = λ k below. c.loop-k.invariant.small k (omega arith) } in
    c.loop-k.invariant.sum ∙ ap (λ n. sum_by count_ones (take n mask)) all ∙ ap (sum_by count_ones) (take_all 16 mask (omega (arith, c.told-mask)))
    ∙ ones_counted test values mask is block
