use Rattle.std.proofs.Common.{arith}
use Rattle.node_core.proofs.Seeing.{first_so_many}
use Rattle.node_core.proofs.station.Station.best_routes.Goals as goal

pub returns : goal.returns
returns c = λ n h.
    let dests = c.args.destinations.now in
    let all = first_so_many 64 c.min.result c.loop-dest.dest-index dests c.min.ensures (omega (arith, c.loop-dest-test.false)) in
    rw (← all) (c.loop-dest.invariant.0 n h)
