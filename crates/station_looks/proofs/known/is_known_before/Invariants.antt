use Rattle.std.proofs.Common.{◌≡◌, ◌-◌}
use Rattle.std.specs.List.{range_with_len}
use Rattle.station_members.specs.Standing.{MembersStand}
use Rattle.station_members.specs.States.{State}
use Rattle.std.specs.Prelude.{is_some}
use Rattle.std.specs.List.{list_any}
use Rattle.station_looks.specs.Nodes.{best_at}
use Rattle.station_looks.specs.Rows as rows
use Rattle.station_looks.proofs.known.is_known_before.Given as goal

abbrev pub invariant-loop-before : goal.invariant-loop-before
invariant-loop-before l =
    (s : State) → MembersStand l.members s → rows.is_known_before l.at l.dest s ≡ list_any (λ k. is_some (best_at k l.dest s)) (range_with_len l.before (l.at - l.before))
