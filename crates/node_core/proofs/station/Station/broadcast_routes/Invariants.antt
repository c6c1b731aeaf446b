use Rattle.std.proofs.Common.{map}
use Rattle.std.specs.List.{range_with_len}
use Rattle.node_core.specs.Broadcasts.{round_frame, put_all}
use Rattle.node_core.specs.Standing.{Holds}
use Rattle.node_model.specs.States.{State}
use Rattle.node_core.proofs.station.Station.broadcast_routes.Given as goal

-- so many frames were put out
abbrev pub invariant-loop-nth : goal.invariant-loop-nth
invariant-loop-nth l =
    (n : State) → Holds l.fn.self n
    → Holds l.self (put_all (map (round_frame n.settings.call n.settings.alias l.entries.items) (range_with_len 0 l.nth)) n)
