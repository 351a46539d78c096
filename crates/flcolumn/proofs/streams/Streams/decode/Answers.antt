use Rattle.std.proofs.Common.{◌≡◌, arith}
use Rattle.flcolumn.proofs.HeadAndRest.{decoded, last_size}
use Rattle.flcolumn.proofs.Stopped.{stops_behind_head}
use Rattle.flcolumn.proofs.streams.Streams.decode.Goals as goal

pub returns-in-8-clause-decodes : goal.returns-in-8-clause-decodes
returns-in-8-clause-decodes g c = λ told tells.
    decoded 8 c.in_ok-head.head.checked _ _ _ _ _ c.decode_as.result (rw c.in-8.is at (c.in_ok-head.ensures.gives told)) (c.decode_as.ensures.decodes told tells)

pub returns-in-16-clause-decodes : goal.returns-in-16-clause-decodes
returns-in-16-clause-decodes g c = λ told tells.
    decoded 16 c.in_ok-head.head.checked _ _ _ _ _ c.decode_as-in-16.result (rw c.in-16.is at (c.in_ok-head.ensures.gives told)) (c.decode_as-in-16.ensures.decodes told tells)

pub returns-in-32-clause-decodes : goal.returns-in-32-clause-decodes
returns-in-32-clause-decodes g c = λ told tells.
    decoded 32 c.in_ok-head.head.checked _ _ _ _ _ c.decode_as-in-32.result (rw c.in-32.is at (c.in_ok-head.ensures.gives told)) (c.decode_as-in-32.ensures.decodes told tells)

pub returns-in_default-clause-decodes : goal.returns-in_default-clause-decodes
returns-in_default-clause-decodes g c = λ told tells.
    let last : c.in_ok-head.head.bits ≡ 64 = last_size c.in_ok-head.head.bits c.in_ok-head.ensures.size (λ is. omega (arith, is)) (λ is. omega (arith, is)) (λ is. omega (arith, is)) in
    decoded 64 c.in_ok-head.head.checked _ _ _ _ _ c.decode_as-in_default.result (rw last at (c.in_ok-head.ensures.gives told))
    (c.decode_as-in_default.ensures.decodes told tells)

pub returns-in-8-clause-stops : goal.returns-in-8-clause-stops
returns-in-8-clause-stops g c = λ told.
    stops_behind_head c.decode_as.result c.in_ok-head.head.bits c.in_ok-head.head.checked _ _ _ (c.in_ok-head.ensures.gives told) c.decode_as.ensures.stops

pub returns-in-16-clause-stops : goal.returns-in-16-clause-stops
returns-in-16-clause-stops g c = λ told.
    stops_behind_head c.decode_as-in-16.result c.in_ok-head.head.bits c.in_ok-head.head.checked _ _ _ (c.in_ok-head.ensures.gives told) c.decode_as-in-16.ensures.stops

pub returns-in-32-clause-stops : goal.returns-in-32-clause-stops
returns-in-32-clause-stops g c = λ told.
    stops_behind_head c.decode_as-in-32.result c.in_ok-head.head.bits c.in_ok-head.head.checked _ _ _ (c.in_ok-head.ensures.gives told) c.decode_as-in-32.ensures.stops

pub returns-in_default-clause-stops : goal.returns-in_default-clause-stops
returns-in_default-clause-stops g c = λ told.
    stops_behind_head c.decode_as-in_default.result c.in_ok-head.head.bits c.in_ok-head.head.checked _ _ _ (c.in_ok-head.ensures.gives told) c.decode_as-in_default.ensures.stops
