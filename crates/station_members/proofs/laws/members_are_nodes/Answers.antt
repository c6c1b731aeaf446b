use Rattle.station_members.proofs.MembersNodes as members
use Rattle.station_members.proofs.laws.members_are_nodes.Goals as goal

pub returns : goal.returns
returns c = members.members_are_nodes
