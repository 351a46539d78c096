use Rattle.std.proofs.Common.{◌≡◌, ◌%◌, ◌^◌, map, ◌∙◌, rules}
use Rattle.std.proofs.lemmas.List.{length-map, map-set}
use Rattle.std.proofs.lemmas.List.Edits.{fill_by_more}
use Rattle.std.proofs.lemmas.List.FromFn.{fill_by_all}
use Rattle.flblock.specs.Ramp.{ramp_values}
use Rattle.flblock.proofs.Ramps.{next-value}
use Rattle.flblock.proofs.ramp.ramp.Goals as goal

pub loop-place-preserved : goal.loop-place-preserved
loop-place-preserved g c =
    let number = g.E.MachineWord.number in
    let i = c.loop-place.place in
    let w = c.args.width in
    let values = c.loop-place.values in
    let one : number c.one.result ≡ 1 = c.one.ensures in
    let held : number c.loop-place.value ≡ i % 2 ^ w = c.loop-place.invariant.value in
    record {
      whole = search rules;
      value = rw (c.low-value.ensures.value, c.plus.ensures.value, held, one) (next-value i w g.E.MachineWord.T c.requires.width);
      before = λ k below.
          rw (map-set number values i c.loop-place.value, held)
          (fill_by_more (λ j. j % 2 ^ w) (map number values) i 0 (simp length-map (search rules)) c.loop-place.invariant.before k below);
    }

pub returns : goal.returns
unfolding ramp_values
returns g c =
    let number = g.E.MachineWord.number in
    let values = c.loop-place.values in
    fill_by_all (λ k. k % 2 ^ c.args.width) (map number values) 1024 0 (length-map values number ∙ c.loop-place.invariant.whole) (search rules)
