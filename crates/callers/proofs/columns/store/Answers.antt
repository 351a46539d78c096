use Rattle.std.proofs.Common.{◌≡◌, length, map, sym, ◌∙◌}
use Rattle.std.proofs.lemmas.List.{length-map}
use Rattle.callers.proofs.columns.store.Goals as goal

pub returns : goal.returns
returns g c = λ ws rs long lie.
    let as_many : length c.write_heads.new.heads ≡ length c.args.blocks.now = c.write_heads.auto.heads ∙ c.requires.heads in
    c.column_len-len.ensures.shortest (map (map g.E.FastLanes.number) c.args.blocks.now) ws rs (rw length-map (sym as_many)) (long ∙ sym as_many)
    c.write_heads.ensures.narrowest lie
