use Rattle.std.proofs.Common.{arith}
use Rattle.route_table.specs.Rows.{reported}
use Rattle.route_table.proofs.Counting.{reports_bound, reported_bound}
use Rattle.route_table.proofs.rows.surplus_after.Goals as goal

pub returns-then-rows-entries-lt-MAX_PAIRS : goal.returns-then-rows-entries-lt-MAX_PAIRS
returns-then-rows-entries-lt-MAX_PAIRS c =
    let sender = c.args.sender.now in
    omega (arith, reports_bound c.args.minq (reported sender c.args.entries.now) c.args.rows.now, reported_bound sender c.args.entries.now, c.if-rows-entries-lt-MAX_PAIRS.true)
