use Rattle.std.proofs.Common.{◌≡◌, ◌++◌, map}
use Rattle.station_looks.specs.Rows as rows
use Rattle.station_looks.proofs.known.listed.Given as goal

abbrev pub invariant-loop-known : goal.invariant-loop-known
invariant-loop-known l = l.listed.items ++ map rows.destination l.known-iterator ≡ map rows.destination l.placed.keys
