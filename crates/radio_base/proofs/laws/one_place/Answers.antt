use Rattle.radio_base.proofs.Places as places
use Rattle.radio_base.proofs.laws.one_place.Goals as goal

pub returns : goal.returns
returns c = places.one_place
