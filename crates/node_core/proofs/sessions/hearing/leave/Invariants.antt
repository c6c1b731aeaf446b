use Rattle.std.proofs.Common.{◌≡◌, ◌++◌, map, take, drop}
use Rattle.node_model.specs.Sessions as sessions
use Rattle.node_core.proofs.sessions.hearing.leave.Given as goal

abbrev pub invariant-loop-session : goal.invariant-loop-session
invariant-loop-session l = l.session-items ≡ map (sessions.leave l.peer) (take l.session-index l.fn.all.items) ++ drop l.session-index l.fn.all.items
