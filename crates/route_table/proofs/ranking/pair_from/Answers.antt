use Rattle.std.proofs.Common.{rules, arith, ◌≤◌}
use Rattle.route_table.specs.Places.{start_of}
use Rattle.route_table.proofs.Placing.{none_before_start, none_of_pair_from, none_of_pair_next}
use Rattle.route_table.proofs.ranking.pair_from.Goals as goal

pub loop-at-init : goal.loop-at-init
loop-at-init c = rw c.requires.start (none_before_start c.args.route.now c.args.rows.now)

pub returns-then-ne : goal.returns-then-ne
returns-then-ne c =
    let from : start_of c.args.route.now.dest c.args.rows.now ≤ c.loop-at.at = omega arith in
    none_of_pair_from c.args.route.now c.args.rows.now c.loop-at.at c.index-rows-at.result c.requires.order from (omega arith) (rw (← c.index-rows-at.is) (search rules)) c.loop-at.invariant

pub loop-at-preserved : goal.loop-at-preserved
loop-at-preserved c =
    none_of_pair_next c.args.route.now c.args.rows.now c.loop-at.at c.index-rows-at.result (omega arith) (rw (← c.index-rows-at.is) (search rules)) c.loop-at.invariant
