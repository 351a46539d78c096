use Rattle.fastlanes_packing.proofs.lane.unpack_lane.Goals as goal

pub unpack_lane_from-requires-clause-allowed : goal.unpack_lane_from-requires-clause-allowed
unpack_lane_from-requires-clause-allowed g c = rw c.new-words.ensures c.requires.allowed

pub returns : goal.returns
returns g c = rw c.new-words.ensures at c.unpack_lane_from.ensures.walk
