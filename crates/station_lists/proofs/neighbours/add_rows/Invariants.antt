use Rattle.std.proofs.Common.{◌≡◌, ◌++◌, drop}
use Rattle.std.specs.Prelude.{flat_map}
use Rattle.station_lists.specs.Lists as lists
use Rattle.station_lists.proofs.neighbours.add_rows.Given as goal

abbrev pub invariant-loop-row : goal.invariant-loop-row
invariant-loop-row l = l.reply ++ flat_map lists.neighbour_line (drop l.row-index l.rows) ≡ l.fn.reply ++ flat_map lists.neighbour_line l.rows
