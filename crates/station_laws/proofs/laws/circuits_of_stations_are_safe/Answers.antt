use Rattle.station_laws.proofs.Safe.{are_safe}
use Rattle.station_laws.proofs.laws.circuits_of_stations_are_safe.Goals as goal

pub returns : goal.returns
returns c = are_safe c.stations_are_circuit_runs.ensures.runs c.circuits_safe.ensures
