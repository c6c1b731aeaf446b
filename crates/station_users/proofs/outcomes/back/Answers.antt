use Rattle.station_lists.specs.Telling.{told_text}
use Rattle.station_sessions.specs.Sessions as sessions
use Rattle.station_users.specs.Steps.{at_session}
use Rattle.station_users.specs.Telling.{tell}
use Rattle.station_users.specs.Outcomes.{back}
use Rattle.station_users.proofs.Going.{changes, then}
use Rattle.station_users.proofs.outcomes.back.Goals as goal

pub returns : goal.returns
returns c =
    let come_back = sessions.come_back c.args.turn.moment.0 in
    then (at_session come_back) (tell (told_text c.args.why.now)) c.args.sides.now c.args.session.now c.args.sides.now
    c.come_back.new.self c.args.sides.now c.tell.new.session
    (changes come_back c.args.sides.now c.args.session.now c.come_back.new.self c.come_back.ensures) c.in_ok-tell.ensures
