use Rattle.std.specs.Prelude.{length}
use Rattle.station_users.specs.Unclaimed.{drop_end_text, drop_end_texts, drops_end_text, drops_end_texts}
use Rattle.station_users.proofs.Loops.{EachDoes}
use Rattle.station_users.proofs.hall.Hall.drop_end_texts.Given as goal

abbrev pub invariant-loop-nth : goal.invariant-loop-nth
invariant-loop-nth l = EachDoes (drops_end_text l.member l.turn.moment) (drop_end_text l.member l.turn.moment) (λ u. 64) l.nth l.dropped l.fn.self l.self
