use Rattle.std.proofs.Common.{◌≡◌, ◌++◌, drop}
use Rattle.std.specs.Prelude.{flat_map}
use Rattle.net_report.specs.Reports as texts
use Rattle.net_report.proofs.told.tables.write_routes.Given as goal

abbrev pub invariant-loop-route : goal.invariant-loop-route
invariant-loop-route l = l.text ++ flat_map texts.route_line (drop l.route-index l.routes) ≡ l.fn.text ++ flat_map texts.route_line l.routes
