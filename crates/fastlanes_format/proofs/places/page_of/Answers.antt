use Rattle.fastlanes_format.proofs.PagePlaces.{page_at}
use Rattle.fastlanes_format.proofs.places.page_of.Goals as goal

pub place_behind-end-requires : goal.place_behind-end-requires
place_behind-end-requires c =
    let here = page_at c.requires.column.0 c.args.bytes.now c.requires.column.1 c.args.page c.requires.there in
    rw c.noted_place-place.ensures here.inside
