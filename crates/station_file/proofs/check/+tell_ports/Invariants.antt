use Rattle.std.proofs.Common.{length}
use Rattle.station_file.proofs.check.+tell_ports.Given as goal

abbrev pub decreases-tell_ports : goal.decreases-tell_ports
decreases-tell_ports l = length l.ports.now
