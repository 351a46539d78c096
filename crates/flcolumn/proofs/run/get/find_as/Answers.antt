use Rattle.std.proofs.Common.{◌≡◌, ◌++◌, ◌∙◌, Err, ap, drop, length, rules, take}
use Rattle.std.proofs.Math.Seq.{take-append_seam}
use Rattle.flcolumn.proofs.Finding.{lacks_rest}
use Rattle.flcolumn.proofs.HeadAndRest.{no_write}
use Rattle.flcolumn.proofs.run.get.find_as.Goals as goal

pub returns-in-Ok-check_numbers-clause-finds : goal.returns-in-Ok-check_numbers-clause-finds
returns-in-Ok-check_numbers-clause-finds g c = λ told.
    let found = c.find_stream.new.found in
    let rest = drop (length found) c.in_ok-found.found.items in
    let long : c.in_ok-found.found.len ≡ length found = search rules in
    let whole : take c.in_ok-found.found.len (found ++ rest) ≡ found = ap (λ n. take n (found ++ rest)) long ∙ take-append_seam found rest in
    record { count = c.in-Ok.all; finds = rw whole (c.in-Ok.ensures.finds told); below = c.in-Ok-check_numbers.ensures.below }

pub returns-clause-no_write : goal.returns-clause-no_write
returns-clause-no_write g c = no_write c.in-Err.error (λ is. c.in-Err.ensures.never_write_failed (ap Err is))

pub returns-in-Ok-clause-stops : goal.returns-in-Ok-clause-stops
returns-in-Ok-clause-stops g c = λ told.
    lacks_rest _ _ _ c.in-Ok.all c.args.numbers.now _ _ (c.in-Ok.ensures.finds told) c.in-Err-check_numbers.ensures.missing
