use Rattle.std.proofs.Common.{sym, subst}
use Rattle.route_table.specs.Places.{AreCounted}
use Rattle.route_table.proofs.Standing.{heard_counted}
use Rattle.route_table.proofs.rows.counted_surplus.Goals as goal

pub count_after-count-requires-clause-reports :
    goal.count_after-count-requires-clause-reports
count_after-count-requires-clause-reports c =
    let sender = c.args.sender.now in
    let value = c.deref.ensures in
    (value.1, subst AreCounted (sym value.0) (heard_counted sender.life sender.own sender.neighbour sender.alias sender.path_quality c.args.entries.now _ c.reports_of.ensures))
