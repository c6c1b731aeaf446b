use Rattle.std.proofs.Common.{map}
use Rattle.station_lists.specs.Lists.{neighbour_line}
use Rattle.station_looks.specs.Rows.{neighbour_by}
use Rattle.station_looks.proofs.Slices.{lined}
use Rattle.station_looks.proofs.neighbours.add_rows.Goals as goal

pub loop-route-preserved : goal.loop-route-preserved
loop-route-preserved c = λ s stand.
    lined neighbour_line (neighbour_by c.args.about.now s c.args.at c.args.member) c.args.routes.now c.loop-route.route-index c.route-item.result
    (map neighbour_line c.args.all.now.items) (map neighbour_line c.loop-route.all.items) (map neighbour_line c.add_row.new.all.items)
    c.loop-route-test.true c.route-item.is (c.loop-route.invariant s stand) (c.in_ok-add_row.ensures s stand)
