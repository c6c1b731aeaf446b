use Rattle.std.proofs.Common.{◌≡◌, ◌++◌, length}
use Rattle.std.specs.Prelude.{flat_map}
use Rattle.route_table.specs.Places.{InRows}
use Rattle.route_table.specs.Rows as spec
use Rattle.route_table.proofs.listing.best_of_each.Given as goal

abbrev pub invariant-loop-rest : goal.invariant-loop-rest
invariant-loop-rest l = record {
  told : l.best.items ++ flat_map (spec.best_of l.rest) (spec.calls_of l.rest) ≡ flat_map (spec.best_of l.rows) (spec.calls_of l.rows);
  order : InRows l.rest;
}

abbrev pub decreases-loop-rest : goal.decreases-loop-rest
decreases-loop-rest l = length l.rest
