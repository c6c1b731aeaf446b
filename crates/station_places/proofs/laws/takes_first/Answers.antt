use Rattle.station_places.proofs.Taken as taken
use Rattle.station_places.proofs.laws.takes_first.Goals as goal

pub returns-clause-first : goal.returns-clause-first
returns-clause-first c = taken.takes_first

pub returns-clause-waits : goal.returns-clause-waits
returns-clause-waits c = taken.takes_what_waits
