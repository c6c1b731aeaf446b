use Rattle.station_places.proofs.Emptied as emptied
use Rattle.station_places.proofs.laws.links_are_emptied.Goals as goal

pub returns : goal.returns
returns c = emptied.links_are_emptied c.payloads.ensures.offers c.payloads.ensures.takes c.telling_ends.ensures
