use Rattle.fastlanes.proofs.Callers.{bit_untransposed_at_64}
use Rattle.callers.proofs.round_trips.bits_to_transposed_indexes.Goals as goal

pub returns : goal.returns
returns c i in_block = bit_untransposed_at_64 _ _ i in_block c.untranspose_bits.ensures.moved
