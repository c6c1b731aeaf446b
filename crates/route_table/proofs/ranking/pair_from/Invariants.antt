use Rattle.std.proofs.Common.{◌≡◌, take, false}
use Rattle.std.specs.List.{list_any}
use Rattle.route_table.specs.Rows.{is_same_pair}
use Rattle.route_table.proofs.ranking.pair_from.Given as goal

abbrev pub invariant-loop-at : goal.invariant-loop-at
invariant-loop-at l = list_any (is_same_pair l.route) (take l.at l.rows) ≡ false
