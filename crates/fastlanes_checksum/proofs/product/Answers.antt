use Rattle.std.proofs.Common.{◌≡◌, ◌+◌, ◌*◌, ◌-◌, ◌/◌, ◌%◌, ◌^◌, ◌<◌, ◌∙◌, ap, arith, sym}
use Rattle.std.proofs.lemmas.Nat.{pow-add}
use Rattle.std.specs.Int.Bits.{bit_xor, xor_assoc, xor_zero_r}
use Rattle.fastlanes_checksum.specs.Checksum.{times_x_to}
use Rattle.fastlanes_checksum.proofs.Polynomials.{times_x_to-byte, times_x_to-zero}
use Rattle.fastlanes_checksum.proofs.product.Goals as goal

pub loop-k-preserved : goal.loop-k-preserved
loop-k-preserved c =
    let rest = c.loop-k.rest in
    let bits = 8 * (7 - c.loop-k.k) in
    let left = bits + 8 * c.args.more in
    let before : 8 * (8 - c.loop-k.k) + 8 * c.args.more ≡ left + 8 = omega arith in
    let bits_before : 8 * (8 - c.loop-k.k) ≡ bits + 8 = omega arith in
    let after : 8 * (8 - (c.loop-k.k + 1)) ≡ bits = omega arith in
    let power : 8 * (7 - c.loop-k.k + c.args.more + 1) ≡ left + 8 = omega arith in
    let below : rest < 2 ^ (bits + 8) = rw bits_before at c.loop-k.invariant.below in
    rw after (record {
      whole =
          xor_assoc c.loop-k.product c.by_table-product.result (times_x_to left (rest / 256))
          ∙ ap (bit_xor c.loop-k.product)
          (ap (λ n. bit_xor n (times_x_to left (rest / 256))) (c.by_table-product.ensures ∙ ap (λ n. times_x_to n (rest % 256)) power)
          ∙ sym (times_x_to-byte left rest)
          ∙ ap (λ n. times_x_to n rest) (sym before))
          ∙ c.loop-k.invariant.whole;
      below = omega (arith, below, pow-add 2 bits 8);
    })

pub returns : goal.returns
returns c =
    let done : 8 * (8 - c.loop-k.k) ≡ 0 = omega arith in
    let none : c.loop-k.rest ≡ 0 = let below : c.loop-k.rest < 2 ^ 0 = rw done at c.loop-k.invariant.below in omega (arith, below) in
    sym (xor_zero_r c.loop-k.product)
    ∙ ap (bit_xor c.loop-k.product) (sym (times_x_to-zero (8 * (8 - c.loop-k.k) + 8 * c.args.more)))
    ∙ rw none at c.loop-k.invariant.whole
