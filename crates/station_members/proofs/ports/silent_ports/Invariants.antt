use Rattle.std.proofs.Common.{◌≡◌}
use Rattle.station_members.specs.Ports.{silent}
use Rattle.station_members.proofs.ports.silent_ports.Given as goal

abbrev pub invariant-loop : goal.invariant-loop
invariant-loop l = l.ports.items ≡ silent l.counter
