use Rattle.fastlanes_column.proofs.Frames.{narrowest_head, near_elements}
use Rattle.fastlanes_column.proofs.frame.frame_head.Goals as goal

pub returns : goal.returns
returns g c =
    let head = c.head_at_minimum.ensures in
    record {
      reference = head.least;
      width = head.width;
      fits = head.fits;
      near = near_elements _ _ _ _ head.width.holds;
      narrowest = narrowest_head _ _ _ _ head.least head.words head.width;
    }
