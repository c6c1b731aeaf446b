use Rattle.std.proofs.Common.{◌≡◌, ◌++◌, flat_map, map, take}
use Rattle.station_members.specs.Standing.{MembersStand}
use Rattle.station_members.specs.States.{State}
use Rattle.station_lists.specs.Lists as lists
use Rattle.station_looks.specs.Rows as rows
use Rattle.station_looks.proofs.links.add_rows.Given as goal

abbrev pub invariant-loop-peer : goal.invariant-loop-peer
invariant-loop-peer l =
    (s : State) → MembersStand l.members s → map lists.link_line l.all.items
    ≡ map lists.link_line l.fn.all.items ++ map lists.link_line (flat_map (rows.link_to l.about s l.at l.member) (take l.peer-index l.peers))
