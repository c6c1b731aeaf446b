use Rattle.route_table.proofs.Ranked.{routes_ranked, routes_rearranged}
use Rattle.route_table.proofs.laws.ranking.Goals as goal

pub returns-clause-ranked : goal.returns-clause-ranked
returns-clause-ranked c = routes_ranked

pub returns-clause-rearranged : goal.returns-clause-rearranged
returns-clause-rearranged c = routes_rearranged
