use Rattle.fastlanes.proofs.Callers.{near_element}
use Rattle.callers.proofs.round_trips.value_of_a_frame.Goals as goal

pub returns : goal.returns
returns g c =
    near_element _ _ _ _ _ _ _ _ _ c.unchecked_for_pack.ensures.comes_back c.requires.index c.requires.near c.unchecked_unpack_single.ensures
    c.word_add.ensures.value
