use Rattle.std.proofs.Common.{◌≡◌, ◌≤◌, filter, length}
use Rattle.station_settings.specs.Starting.{below, is_port_of}
use Rattle.station_settings.proofs.member_setting.ports_of.Given as goal

abbrev pub invariant-loop-port : goal.invariant-loop-port
invariant-loop-port l = (l.ports.items ≡ filter (is_port_of l.numbers) (below l.port)) × (length l.ports.items ≤ l.port)
