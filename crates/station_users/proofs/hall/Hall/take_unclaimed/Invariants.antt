use Rattle.std.specs.Prelude.{length}
use Rattle.station_users.specs.Unclaimed.{take_at, take_unclaimed, takes_at, takes_unclaimed}
use Rattle.station_users.proofs.Loops.{EachDoes}
use Rattle.station_users.proofs.hall.Hall.take_unclaimed.Given as goal

abbrev pub invariant-loop-member : goal.invariant-loop-member
invariant-loop-member l = EachDoes (takes_at l.turn.moment) (take_at l.turn.moment) (λ u. length u.sides.members.nodes) l.member l.dropped l.fn.self l.self
