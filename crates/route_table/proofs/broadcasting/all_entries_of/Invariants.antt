use Rattle.std.proofs.Common.{◌≡◌, ◌++◌, length}
use Rattle.std.specs.Prelude.{filter_map}
use Rattle.route_table.specs.Places.{InRows}
use Rattle.route_table.specs.Rows as spec
use Rattle.route_table.proofs.broadcasting.all_entries_of.Given as goal

abbrev pub invariant-loop-first : goal.invariant-loop-first
invariant-loop-first l = record {
  told : l.entries.items ++ filter_map (spec.entry_from l.least l.rest) (spec.calls_of l.rest) ≡ filter_map (spec.entry_from l.least l.rows) (spec.calls_of l.rows);
  order : InRows l.rest;
}

abbrev pub decreases-loop-first : goal.decreases-loop-first
decreases-loop-first l = length l.rest
