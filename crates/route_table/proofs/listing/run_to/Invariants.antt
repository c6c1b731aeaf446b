use Rattle.std.proofs.Common.{◌≡◌, ◌+◌, drop}
use Rattle.std.specs.List.{prefix_len}
use Rattle.route_table.specs.Table as table
use Rattle.route_table.proofs.listing.run_to.Given as goal

abbrev pub invariant-loop-at : goal.invariant-loop-at
invariant-loop-at l = l.at + prefix_len (table.is_to l.dest) (drop l.at l.rows) ≡ prefix_len (table.is_to l.dest) l.rows
