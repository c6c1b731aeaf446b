use Rattle.std.proofs.Common.{◌≡◌, ◌++◌, length}
use Rattle.route_table.specs.Rows as spec
use Rattle.route_table.proofs.listing.destinations_of.Given as goal

abbrev pub invariant-loop-first : goal.invariant-loop-first
invariant-loop-first l = l.calls.items ++ spec.calls_of l.rest ≡ spec.calls_of l.rows

abbrev pub decreases-loop-first : goal.decreases-loop-first
decreases-loop-first l = length l.rest
