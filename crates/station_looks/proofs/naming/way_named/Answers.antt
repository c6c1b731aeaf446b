use Rattle.std.proofs.Common.{◌≡◌, arith, length}
use Rattle.station_looks.specs.Naming.{ways_named_at}
use Rattle.station_looks.proofs.Bests.{best_all, best_grown}
use Rattle.station_looks.proofs.naming.way_named.Goals as goal

pub loop-at-preserved : goal.loop-at-preserved
loop-at-preserved c = λ s stand.
    best_grown (ways_named_at c.args.but c.args.word.now s) c.loop-at.at c.loop-at.best _ c.better-best.result
    (c.loop-at.invariant s stand) (c.in_ok-way_named_at.ensures s stand) c.better-best.ensures

pub returns : goal.returns
returns c = λ s stand.
    let e : c.loop-at.at ≡ length s.nodes = omega (arith, c.loop-at-test.false, c.loop-at.auto.at-end, c.len-at-end.ensures s stand) in
    best_all (ways_named_at c.args.but c.args.word.now s) c.loop-at.at (length s.nodes) c.loop-at.best e (c.loop-at.invariant s stand)
