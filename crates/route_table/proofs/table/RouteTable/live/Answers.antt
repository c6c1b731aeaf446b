use Rattle.std.proofs.Common.{rules}
use Rattle.route_table.proofs.Standing.{live_is}
use Rattle.route_table.proofs.table.RouteTable.live.Goals as goal

pub returns-clause-usable : goal.returns-clause-usable
returns-clause-usable c = rw (← c.self.view_is) (λ log s. let k = live_is c.self.inside.own c.self.inside.rules c.self.inside.rows.items log s in search rules)
