use Rattle.std.proofs.Common.{◌≡◌, ◌++◌, take}
use Rattle.std.specs.Prelude.{flat_map}
use Rattle.trace_lines.specs.Left.{route_line}
use Rattle.trace_lines.proofs.left.write_routes.Given as goal

abbrev pub invariant-loop-route : goal.invariant-loop-route
invariant-loop-route l = l.out ≡ l.fn.out ++ flat_map (route_line l.node) (take l.route-index l.routes)
