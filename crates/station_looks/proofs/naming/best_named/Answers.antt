use Rattle.std.proofs.Common.{◌∙◌, ap, sym}
use Rattle.station_looks.specs.Naming.{best_of, ways_named_to}
use Rattle.station_looks.proofs.Bests.{best_next, best_one}
use Rattle.station_looks.proofs.naming.best_named.Goals as goal

pub loop-dest-preserved : goal.loop-dest-preserved
loop-dest-preserved c = λ s stand.
    best_next (ways_named_to c.args.word.now s c.args.at) c.args.dests.now c.loop-dest.dest-index c.dest-item.result c.loop-dest.best
    c.way_named_to.result c.better-best.result c.loop-dest-test.true c.dest-item.is (c.loop-dest.invariant s stand)
    (sym (best_one c.way_named_to.result) ∙ ap best_of (c.way_named_to.ensures s stand)) c.better-best.ensures
