use Rattle.station_laws.proofs.Safe.{tell_retries}
use Rattle.station_laws.proofs.laws.retries_are_told.Goals as goal

pub returns : goal.returns
returns c = tell_retries c.stations_are_circuit_runs.ensures.runs c.retries_are_told.ensures
