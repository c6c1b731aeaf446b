use Rattle.std.proofs.Common.{◌≡◌, ◌≤◌, ◌++◌, length, drop}
use Rattle.std.specs.Prelude.{filter_map}
use Rattle.route_table.specs.Places.{InRows}
use Rattle.route_table.specs.Rows as spec
use Rattle.route_table.proofs.broadcasting.entries_of.Given as goal

abbrev pub invariant-loop-first : goal.invariant-loop-first
invariant-loop-first l = record {
  told : l.entries.items ++ drop l.skip (filter_map (spec.entry_from l.least l.rest) (spec.calls_of l.rest))
      ≡ drop l.from (filter_map (spec.entry_from l.least l.rows) (spec.calls_of l.rows));
  order : InRows l.rest;
  few : length l.entries.items ≤ 11;
}

abbrev pub decreases-loop-first : goal.decreases-loop-first
decreases-loop-first l = length l.rest
