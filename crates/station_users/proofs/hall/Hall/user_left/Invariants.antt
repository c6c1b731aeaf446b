use Rattle.std.specs.Prelude.{length}
use Rattle.station_users.specs.States.{at_nth}
use Rattle.station_users.specs.Hearing.{leaves_at, user_left}
use Rattle.station_sessions.specs.declared.place.Place.TheVariants.{Link}
use Rattle.station_users.proofs.Loops.{Each}
use Rattle.station_users.proofs.hall.Hall.user_left.Given as goal

abbrev pub invariant-loop-nth : goal.invariant-loop-nth
invariant-loop-nth l = Each (λ nth u. at_nth nth (leaves_at (Link l.member l.peer)) u) (λ u. length u.sessions) l.nth l.fn.self l.self
