use Rattle.std.proofs.Common.{map}
use Rattle.station_lists.specs.Lists.{link_line}
use Rattle.station_looks.specs.Rows.{link_to}
use Rattle.station_looks.proofs.Slices.{lined}
use Rattle.station_looks.proofs.links.add_rows.Goals as goal

pub loop-peer-preserved : goal.loop-peer-preserved
loop-peer-preserved c = λ s stand.
    lined link_line (link_to c.args.about.now s c.args.at c.args.member) c.args.peers.now c.loop-peer.peer-index c.peer-item.result
    (map link_line c.args.all.now.items) (map link_line c.loop-peer.all.items) (map link_line c.add_row.new.all.items)
    c.loop-peer-test.true c.peer-item.is (c.loop-peer.invariant s stand) (c.in_ok-add_row.ensures s stand)
