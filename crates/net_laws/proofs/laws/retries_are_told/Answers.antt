use Rattle.net_laws.proofs.Retrying.{each_tells_retries}
use Rattle.net_laws.proofs.laws.retries_are_told.Goals as goal

pub returns : goal.returns
returns c = each_tells_retries c.networks_are_sound.ensures c.worlds_are_circuit_runs.ensures c.retries_are_told.ensures
