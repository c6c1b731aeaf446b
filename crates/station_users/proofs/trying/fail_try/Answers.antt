use Rattle.station_lists.specs.Telling.{told_text}
use Rattle.station_lists.specs.declared.told.Told.TheVariants as told
use Rattle.station_places.specs.Taking.{close_at}
use Rattle.station_sessions.specs.Sessions as sessions
use Rattle.station_users.specs.Steps.{at_session, at_sides}
use Rattle.station_users.specs.Telling.{tell}
use Rattle.station_users.specs.Trying.{fail_try}
use Rattle.station_users.proofs.Going.{acts, then, then_session}
use Rattle.station_users.proofs.trying.fail_try.Goals as goal

pub returns : goal.returns
unfolding fail_try
returns c =
    let now = c.args.turn.moment in
    let far = c.args.far.now in
    let closed = acts (close_at far.place now) c.args.sides.now c.close_at.new.self c.args.session.now c.in_ok-close_at.ensures.goes in
    let back = then_session (at_sides (close_at far.place now)) (sessions.come_back now.0) c.args.sides.now c.args.session.now
    c.close_at.new.self c.args.session.now c.come_back.new.self closed c.come_back.ensures in
    then (λ a. at_session (sessions.come_back now.0) (at_sides (close_at far.place now) a)) (tell (told_text (told.Failure far.name)))
    c.args.sides.now c.args.session.now c.close_at.new.self c.come_back.new.self c.close_at.new.self c.tell.new.session back c.in_ok-tell.ensures
