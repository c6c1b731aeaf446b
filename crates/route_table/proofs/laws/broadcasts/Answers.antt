use Rattle.route_table.proofs.Told.{broadcast_rises, broadcast_exact}
use Rattle.route_table.proofs.laws.broadcasts.Goals as goal

pub returns-clause-rising : goal.returns-clause-rising
returns-clause-rising c = broadcast_rises

pub returns-clause-exact : goal.returns-clause-exact
returns-clause-exact c = broadcast_exact
