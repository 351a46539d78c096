use Rattle.callers.proofs.columns.width_of_neighbours.Goals as goal

pub returns : goal.returns
returns g c = c.delta_bases.ensures.width c.delta_head.result c.delta_head.ensures.width
