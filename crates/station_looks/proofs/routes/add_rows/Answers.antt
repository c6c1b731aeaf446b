use Rattle.station_looks.specs.Rows.{member_route}
use Rattle.station_looks.proofs.Slices.{mapped}
use Rattle.station_looks.proofs.routes.add_rows.Goals as goal

pub loop-route-preserved : goal.loop-route-preserved
loop-route-preserved c =
    mapped (member_route c.args.member) c.args.routes.now c.loop-route.route-index c.route-item.result c.args.all.now.items c.loop-route.all.items
    c.push.new.self.items c.loop-route-test.true c.route-item.is c.loop-route.invariant c.in_ok-push.ensures.items
