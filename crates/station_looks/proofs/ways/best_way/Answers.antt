use Rattle.std.proofs.Common.{◌≡◌, ◌∙◌, arith, ap, length, sym}
use Rattle.station_looks.specs.Naming.{best_of, ways_at}
use Rattle.station_looks.proofs.Bests.{best_all, best_grown, best_one}
use Rattle.station_looks.proofs.ways.best_way.Goals as goal

pub loop-at-preserved : goal.loop-at-preserved
loop-at-preserved c = λ s stand.
    best_grown (ways_at c.args.but c.args.dest.now s) c.loop-at.at c.loop-at.best c.way_at.result c.better-best.result (c.loop-at.invariant s stand)
    (sym (best_one c.way_at.result) ∙ ap best_of (c.way_at.ensures s stand)) c.better-best.ensures

pub returns : goal.returns
returns c = λ s stand.
    let e : c.loop-at.at ≡ length s.nodes = omega (arith, c.loop-at-test.false, c.loop-at.auto.at-end, c.len-at-end.ensures s stand) in
    best_all (ways_at c.args.but c.args.dest.now s) c.loop-at.at (length s.nodes) c.loop-at.best e (c.loop-at.invariant s stand)
