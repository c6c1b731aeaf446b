use Rattle.station_lists.specs.Telling.{told_text}
use Rattle.station_users.specs.Greeting.{turn_away}
use Rattle.station_users.specs.Telling.{answer}
use Rattle.station_users.specs.Things.{let_go}
use Rattle.station_users.proofs.Going.{then}
use Rattle.station_users.proofs.hall.Hall.turn_away.Goals as goal

pub returns : goal.returns
unfolding turn_away
returns c = λ u t.
    let now = c.args.turn.moment in
    let one =
    then (answer (told_text c.args.why.now) now) (let_go now) c.args.self.now.sides c.args.session c.answer.new.sides c.answer.new.session
    c.let_go.new.sides c.let_go.new.session c.in_ok-answer.ensures c.in_ok-let_go.ensures u.sides t.sides in
    record { about = t.about; sides = one.sides; sessions = t.sessions; stopping = t.stopping; started = t.started }
