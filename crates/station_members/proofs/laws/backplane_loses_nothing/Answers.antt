use Rattle.station_members.proofs.Lossless as members
use Rattle.station_members.proofs.laws.backplane_loses_nothing.Goals as goal

pub returns : goal.returns
returns c = members.loses_nothing
