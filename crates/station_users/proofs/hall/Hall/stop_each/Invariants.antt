use Rattle.std.specs.Prelude.{length}
use Rattle.station_users.specs.States.{at_nth}
use Rattle.station_users.specs.Ending.{stop_session}
use Rattle.station_users.proofs.Loops.{Each}
use Rattle.station_users.proofs.hall.Hall.stop_each.Given as goal

abbrev pub invariant-loop-nth : goal.invariant-loop-nth
invariant-loop-nth l = Each (λ nth u. at_nth nth (stop_session l.turn.moment) u) (λ u. length u.sessions) l.nth l.fn.self l.self
