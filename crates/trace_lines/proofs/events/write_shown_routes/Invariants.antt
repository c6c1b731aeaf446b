use Rattle.std.proofs.Common.{◌≡◌, ◌++◌, take}
use Rattle.std.specs.Prelude.{flat_map}
use Rattle.trace_lines.specs.Events.{shown_route_line}
use Rattle.trace_lines.proofs.events.write_shown_routes.Given as goal

abbrev pub invariant-loop-route : goal.invariant-loop-route
invariant-loop-route l = l.out ≡ l.fn.out ++ flat_map (shown_route_line l.at) (take l.route-index l.routes)
