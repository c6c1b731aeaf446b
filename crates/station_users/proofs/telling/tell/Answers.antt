use Rattle.station_lists.specs.Telling.{told_text}
use Rattle.station_sessions.specs.Sessions as sessions
use Rattle.station_users.specs.Steps.{at_session}
use Rattle.station_users.specs.Telling.{reply, tell}
use Rattle.station_users.proofs.Going.{by_look, changes}
use Rattle.station_users.proofs.telling.tell.Goals as goal

pub returns : goal.returns
unfolding tell
returns c =
    by_look (reply (told_text c.args.told.now)) (λ text a. at_session (sessions.tell text) a) c.in_ok-text.text c.args.sides.now
    c.args.session.now c.args.sides.now c.tell.new.self c.in_ok-text.ensures
    (changes (sessions.tell c.in_ok-text.text) c.args.sides.now c.args.session.now c.tell.new.self c.in_ok-tell.ensures)
