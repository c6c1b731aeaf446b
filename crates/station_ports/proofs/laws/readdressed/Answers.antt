use Rattle.station_ports.proofs.Readdressing.{with_dest, with_source}
use Rattle.station_ports.proofs.laws.readdressed.Goals as goal

pub returns-clause-dest : goal.returns-clause-dest
returns-clause-dest c = with_dest

pub returns-clause-source : goal.returns-clause-source
returns-clause-source c = with_source
