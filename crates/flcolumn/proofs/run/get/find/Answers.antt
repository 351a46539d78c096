use Rattle.std.proofs.Common.{◌≡◌, arith}
use Rattle.flcolumn.proofs.Finding.{stops_finding}
use Rattle.flcolumn.proofs.HeadAndRest.{found_in, last_size}
use Rattle.flcolumn.proofs.run.get.find.Goals as goal

pub returns-in-8-clause-finds : goal.returns-in-8-clause-finds
returns-in-8-clause-finds g c = λ told.
    found_in _ 8 c.in_ok-head.head.checked _ _ _ c.args.numbers.now c.find_as.result (rw c.in-8.is at (c.in_ok-head.ensures.gives told)) (c.find_as.ensures.finds told)

pub returns-in-16-clause-finds : goal.returns-in-16-clause-finds
returns-in-16-clause-finds g c = λ told.
    found_in _ 16 c.in_ok-head.head.checked _ _ _ c.args.numbers.now c.find_as-in-16.result (rw c.in-16.is at (c.in_ok-head.ensures.gives told)) (c.find_as-in-16.ensures.finds told)

pub returns-in-32-clause-finds : goal.returns-in-32-clause-finds
returns-in-32-clause-finds g c = λ told.
    found_in _ 32 c.in_ok-head.head.checked _ _ _ c.args.numbers.now c.find_as-in-32.result (rw c.in-32.is at (c.in_ok-head.ensures.gives told)) (c.find_as-in-32.ensures.finds told)

pub returns-in_default-clause-finds : goal.returns-in_default-clause-finds
returns-in_default-clause-finds g c = λ told.
    let last : c.in_ok-head.head.bits ≡ 64 = last_size c.in_ok-head.head.bits c.in_ok-head.ensures.size (λ is. omega (arith, is)) (λ is. omega (arith, is)) (λ is. omega (arith, is)) in
    found_in _ 64 c.in_ok-head.head.checked _ _ _ c.args.numbers.now c.find_as-in_default.result
    (rw last at (c.in_ok-head.ensures.gives told)) (c.find_as-in_default.ensures.finds told)

pub returns-in-8-clause-stops : goal.returns-in-8-clause-stops
returns-in-8-clause-stops g c = λ told.
    stops_finding c.find_as.result 8 c.in_ok-head.head.checked c.args.numbers.now _ (rw c.in-8.is at (c.in_ok-head.ensures.gives told)) (c.find_as.ensures.stops told)

pub returns-in-16-clause-stops : goal.returns-in-16-clause-stops
returns-in-16-clause-stops g c = λ told.
    stops_finding c.find_as-in-16.result 16 c.in_ok-head.head.checked c.args.numbers.now _ (rw c.in-16.is at (c.in_ok-head.ensures.gives told)) (c.find_as-in-16.ensures.stops told)

pub returns-in-32-clause-stops : goal.returns-in-32-clause-stops
returns-in-32-clause-stops g c = λ told.
    stops_finding c.find_as-in-32.result 32 c.in_ok-head.head.checked c.args.numbers.now _ (rw c.in-32.is at (c.in_ok-head.ensures.gives told)) (c.find_as-in-32.ensures.stops told)

pub returns-in_default-clause-stops : goal.returns-in_default-clause-stops
returns-in_default-clause-stops g c = λ told.
    let last : c.in_ok-head.head.bits ≡ 64 = last_size c.in_ok-head.head.bits c.in_ok-head.ensures.size (λ is. omega (arith, is)) (λ is. omega (arith, is)) (λ is. omega (arith, is)) in
    stops_finding c.find_as-in_default.result 64 c.in_ok-head.head.checked c.args.numbers.now _
    (rw last at (c.in_ok-head.ensures.gives told)) (c.find_as-in_default.ensures.stops told)
