use Rattle.circuit_set.proofs.Narrow.{narrow_is_timely}
use Rattle.circuit_set.proofs.laws.narrow_is_timely.Goals as goal

pub returns : goal.returns
returns c = narrow_is_timely
