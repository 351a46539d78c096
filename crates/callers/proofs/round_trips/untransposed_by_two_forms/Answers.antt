use Rattle.fastlanes.proofs.Callers.{layout_32, same_transposes}
use Rattle.callers.proofs.round_trips.untransposed_by_two_forms.Goals as goal

pub returns : goal.returns
returns c = same_transposes 32 32 _ _ _ layout_32 c.untranspose_bits.ensures.moved c.untranspose_bits-2.ensures.moved
