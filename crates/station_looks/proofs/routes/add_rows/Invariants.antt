use Rattle.std.proofs.Common.{◌≡◌, ◌++◌, map, take}
use Rattle.station_looks.specs.Rows as rows
use Rattle.station_looks.proofs.routes.add_rows.Given as goal

abbrev pub invariant-loop-route : goal.invariant-loop-route
invariant-loop-route l = l.all.items ≡ l.fn.all.items ++ map (rows.member_route l.member) (take l.route-index l.routes)
