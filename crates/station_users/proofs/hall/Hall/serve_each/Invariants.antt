use Rattle.std.specs.Prelude.{length}
use Rattle.station_users.specs.Serving.{serve_nth, serves, serves_nth}
use Rattle.station_users.proofs.Loops.{EachDoes}
use Rattle.station_users.proofs.hall.Hall.serve_each.Given as goal

abbrev pub invariant-loop-nth : goal.invariant-loop-nth
invariant-loop-nth l = EachDoes (serves_nth l.turn.moment) (serve_nth l.turn.moment) (λ u. length u.sessions) l.nth l.served l.fn.self l.self
