use Rattle.std.specs.Prelude.{length}
use Rattle.station_users.specs.Ending.{end_idle_nth}
use Rattle.station_users.proofs.Loops.{Each}
use Rattle.station_users.proofs.hall.Hall.end_idle.Given as goal

abbrev pub invariant-loop-nth : goal.invariant-loop-nth
invariant-loop-nth l = Each (end_idle_nth l.turn.moment) (λ u. length u.sessions) l.nth l.fn.self l.self
