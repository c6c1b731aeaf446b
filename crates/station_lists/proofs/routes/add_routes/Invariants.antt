use Rattle.std.proofs.Common.{◌≡◌, ◌++◌, drop}
use Rattle.std.specs.Prelude.{flat_map}
use Rattle.station_lists.specs.Lists as lists
use Rattle.station_lists.proofs.routes.add_routes.Given as goal

abbrev pub invariant-loop-route : goal.invariant-loop-route
invariant-loop-route l = l.reply ++ flat_map lists.route_line (drop l.route-index l.routes) ≡ l.fn.reply ++ (lists.routes_head l.dest) ++ flat_map lists.route_line l.routes
