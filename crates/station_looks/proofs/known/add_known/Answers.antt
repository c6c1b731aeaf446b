use Rattle.std.specs.Option.{option_to_list}
use Rattle.station_looks.specs.Rows.{known_to}
use Rattle.station_looks.proofs.Slices.{listed}
use Rattle.station_looks.proofs.known.add_known.Goals as goal

pub loop-dest-preserved : goal.loop-dest-preserved
loop-dest-preserved c = λ s stand.
    listed (known_to s c.args.at) c.args.dests.now c.loop-dest.dest-index c.dest-item.result c.args.all.now.items c.loop-dest.all.items
    c.push_some.new.all.items (option_to_list c.known_to.result) c.loop-dest-test.true c.dest-item.is (c.loop-dest.invariant s stand)
    c.in_ok-push_some.ensures (c.known_to.ensures s stand)
