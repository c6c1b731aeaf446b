use Rattle.route_table.proofs.Groups.{destinations_rise}
use Rattle.route_table.proofs.Listed.{destinations_exact}
use Rattle.route_table.proofs.laws.destinations.Goals as goal

pub returns-clause-rising : goal.returns-clause-rising
returns-clause-rising c = destinations_rise

pub returns-clause-exact : goal.returns-clause-exact
returns-clause-exact c = destinations_exact
