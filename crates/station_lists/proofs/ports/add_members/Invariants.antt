use Rattle.std.proofs.Common.{◌≡◌, ◌++◌, drop}
use Rattle.std.specs.Prelude.{flat_map}
use Rattle.station_lists.specs.Lists as lists
use Rattle.station_lists.proofs.ports.add_members.Given as goal

abbrev pub invariant-loop-member : goal.invariant-loop-member
invariant-loop-member l = l.reply ++ flat_map lists.member_on (drop l.member-index l.members) ≡ l.fn.reply ++ flat_map lists.member_on l.members
