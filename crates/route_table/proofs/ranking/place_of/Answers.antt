use Rattle.std.proofs.Common.{rules}
use Rattle.std.specs.Prelude.{not}
use Rattle.std.proofs.lemmas.List.Sorted.{IsPartitionPoint-from_clause}
use Rattle.route_table.specs.declared.route.Route.{Route}
use Rattle.route_table.specs.Table.{stands_before}
use Rattle.route_table.proofs.Placing.{parted, place_down, point_is, place_behind}
use Rattle.route_table.proofs.ranking.place_of.Goals as goal

pub returns-clause-place : goal.returns-clause-place
returns-clause-place c =
    let test = λ (x : Route). not (stands_before c.args.route.now x) in
    point_is test c.args.rows.now _ c.args.route.now c.partition_point.ensures.bound
    (IsPartitionPoint-from_clause test _ _ c.partition_point.ensures.partitioned (parted test (place_down c.args.route.now) c.args.rows.now c.requires) (λ a r q k. search rules))

pub returns-then-is_after-clause-place :
    goal.returns-then-is_after-clause-place
returns-then-is_after-clause-place c = place_behind c.args.route.now c.args.rows.now c.requires (c.is_after.ensures c.if-is_after.true)
