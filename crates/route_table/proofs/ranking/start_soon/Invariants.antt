use Rattle.std.proofs.Common.{◌≡◌, ◌+◌, drop}
use Rattle.route_table.specs.Places.{start_of}
use Rattle.route_table.proofs.ranking.start_soon.Given as goal

abbrev pub invariant-loop-at : goal.invariant-loop-at
invariant-loop-at l = l.at + start_of l.dest (drop l.at l.rows) ≡ start_of l.dest l.rows
