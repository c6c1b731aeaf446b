use Rattle.std.proofs.Common.{◌≡◌, ◌++◌, drop}
use Rattle.std.specs.Prelude.{flat_map, codes}
use Rattle.station_lists.specs.Lists as lists
use Rattle.station_lists.proofs.ports.add_ports.Given as goal

abbrev pub invariant-loop-row : goal.invariant-loop-row
invariant-loop-row l = l.reply ++ flat_map lists.port_line (drop l.row-index l.all) ≡ l.fn.reply ++ (lists.ended (codes "Ports:")) ++ flat_map lists.port_line l.all
