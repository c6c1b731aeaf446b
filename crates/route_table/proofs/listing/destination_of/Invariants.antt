use Rattle.std.proofs.Common.{◌≡◌, length, slice_get}
use Rattle.route_table.specs.Rows as spec
use Rattle.route_table.proofs.listing.destination_of.Given as goal

abbrev pub invariant-loop-first : goal.invariant-loop-first
invariant-loop-first l = slice_get (spec.calls_of l.rest) l.skip ≡ slice_get (spec.calls_of l.rows) l.nth

abbrev pub decreases-loop-first : goal.decreases-loop-first
decreases-loop-first l = length l.rest
