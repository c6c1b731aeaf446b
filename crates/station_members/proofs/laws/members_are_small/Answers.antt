use Rattle.station_members.proofs.Small as members
use Rattle.station_members.proofs.laws.members_are_small.Goals as goal

pub returns : goal.returns
returns c = members.members_are_small
