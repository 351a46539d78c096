use Rattle.std.proofs.Common.{rules}
use Rattle.fastlanes_pages.proofs.FrameWords.{bounds_kept, bounds_lost}
use Rattle.fastlanes_pages.proofs.bounds.bounds_of_frame.Goals as goal

pub returns-then-less : goal.returns-then-less
returns-then-less g c =
    let are = bounds_lost _ _ _ _ _ _ _ _ c.zero.ensures c.one.ensures c.minus-all.ensures.value c.low.ensures.value c.plus-greatest.ensures.value c.requires.width
    c.plus-greatest.ensures.below (search rules) in
    record { least = search rules; greatest = are.1; sum = search rules }

pub returns-else-less : goal.returns-else-less
returns-else-less g c =
    let are = bounds_kept _ _ _ _ _ _ _ _ c.zero.ensures c.one.ensures c.minus-all.ensures.value c.low.ensures.value c.plus-greatest.ensures.value c.requires.width
    c.plus-greatest.ensures.below (search rules) in
    record { least = are.1; greatest = are.2; sum = λ least. are.0 }
