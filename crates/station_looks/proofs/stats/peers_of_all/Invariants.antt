use Rattle.std.proofs.Common.{◌≡◌, flat_map}
use Rattle.std.specs.List.{range_with_len}
use Rattle.station_members.specs.Standing.{MembersStand}
use Rattle.station_members.specs.States.{State}
use Rattle.station_looks.specs.Nodes.{peers_at}
use Rattle.station_looks.proofs.stats.peers_of_all.Given as goal

abbrev pub invariant-loop-at : goal.invariant-loop-at
invariant-loop-at l = (s : State) → MembersStand l.members s → l.all.items ≡ flat_map (λ at. peers_at at s) (range_with_len 0 l.at)
