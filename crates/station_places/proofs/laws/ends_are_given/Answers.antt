use Rattle.station_places.proofs.Written as written
use Rattle.station_places.proofs.laws.ends_are_given.Goals as goal

pub returns : goal.returns
returns c = written.ends_are_given
