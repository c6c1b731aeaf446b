use Rattle.std.proofs.Common.{◌≡◌, List, drop}
use Rattle.node_model.specs.Serving.{greet_each}
use Rattle.node_model.specs.Sessions.{Session}
use Rattle.node_core.specs.Going.{HoldsTold}
use Rattle.node_model.specs.States.{State}
use Rattle.node_core.proofs.station.Station.greet_each.Given as goal

-- of the sessions that there are now, greeting what is left of the links comes to the same
abbrev pub invariant-loop-peer : goal.invariant-loop-peer
invariant-loop-peer l =
    (n : State) → HoldsTold l.fn.self n
    → (ss : List Session)
    × HoldsTold l.self (record n { sessions = ss })
    × (greet_each n.settings.prompt l.peers n.sessions ≡ greet_each n.settings.prompt (drop l.peer-index l.peers) ss)
