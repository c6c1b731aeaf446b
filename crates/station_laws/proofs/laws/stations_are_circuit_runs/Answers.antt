use Rattle.station_laws.proofs.Nodes.{nodes_are_theirs}
use Rattle.station_laws.proofs.Runs.{are_circuit_runs}
use Rattle.station_laws.proofs.laws.stations_are_circuit_runs.Goals as goal

pub returns-clause-nodes : goal.returns-clause-nodes
returns-clause-nodes c = nodes_are_theirs c.members_are_nodes.ensures

pub returns-clause-runs : goal.returns-clause-runs
returns-clause-runs c =
    let runs = c.inputs_are_circuit_runs.ensures in
    are_circuit_runs runs.bytes runs.ticks runs.acts c.inputs_are_steps.ensures
