use Rattle.net_laws.proofs.Hopping.{hops_take_one}
use Rattle.net_laws.proofs.laws.hops_take_one.Goals as goal

pub returns : goal.returns
returns c = hops_take_one
