use Rattle.fastlanes_c.proofs.encoding.encode_within.Goals as goal

pub returns-clause-shortest : goal.returns-clause-shortest
returns-clause-shortest g c = λ some. rw c.for_only.ensures at c.encode.ensures.shortest
