use Rattle.std.proofs.Common.{◌≡◌, ◌+◌, ◌*◌, ◌<◌, length, map, refl, ap, sym, ◌∙◌, arith, slice_index}
use Rattle.std.proofs.lemmas.List.{get_or-map, length-map}
use Rattle.std.proofs.lemmas.Nat.{mul-le}
use Rattle.fastlanes_base.proofs.Tiles.{element_tile, tile_beside}
use Rattle.fastlanes_base.proofs.tile.run_of_elements.Goals as goal

pub loop-a-preserved : goal.loop-a-preserved
loop-a-preserved g c number to_step =
    let output = c.loop-a.output in
    let a = c.loop-a.a in
    let so_far = c.loop-a.invariant number to_step in
    let long : length output ≡ length c.args.output.now = sym (length-map output number) ∙ so_far.long ∙ length-map c.args.output.now number in
    let in_output : c.args.to + a < length output = omega arith in
    let in_input : c.args.from + c.args.from_step * a < length c.args.input.now = omega (arith, mul-le c.args.from_step a c.args.from_step 7 (omega arith) (omega arith)) in
    let read : number c.index-input-from.result ≡ slice_index (map number c.args.input.now) (c.args.from + c.args.from_step * a) = ap number c.index-input-from.is ∙ sym (get_or-map number c.args.input.now _ c.index-input-from.result 0 in_input) in
    tile_beside 1 a 1 _ _ _ _ _ _ _ _ _ _ refl refl so_far (element_tile number _ _ _ to_step _ output _ c.index-input-from.result in_output refl read)

pub returns : goal.returns
returns g c number to_step =
    let all : c.loop-a.a ≡ 8 = omega arith in
    rw all at (c.loop-a.invariant number to_step)
