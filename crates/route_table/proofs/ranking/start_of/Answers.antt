use Rattle.std.proofs.Common.{rules}
use Rattle.std.proofs.lemmas.List.Sorted.{IsPartitionPoint-from_clause}
use Rattle.ax_address.specs.Callsign.{call_lt}
use Rattle.route_table.specs.declared.route.Route.{Route}
use Rattle.route_table.proofs.Placing.{parted, lower_down, start_is}
use Rattle.route_table.proofs.ranking.start_of.Goals as goal

pub returns-clause-place : goal.returns-clause-place
returns-clause-place c =
    let test = λ (r : Route). call_lt r.dest c.args.dest.now in
    start_is c.args.dest.now c.args.rows.now _ c.partition_point.ensures.bound
    (IsPartitionPoint-from_clause test _ _ c.partition_point.ensures.partitioned (parted test (lower_down c.args.dest.now) c.args.rows.now c.requires) (λ a r q k. search rules))
