use Rattle.station_sessions.specs.Sessions as sessions
use Rattle.station_users.specs.Texts.{drop_text, need_text}
use Rattle.station_users.proofs.Going.{then_session}
use Rattle.station_users.proofs.texts.drop_text.Goals as goal

pub returns : goal.returns
returns c =
    then_session (need_text c.args.turn.moment) sessions.drop_rest c.args.sides.now c.args.session.now c.need_text.new.sides
    c.need_text.new.session c.drop_rest.new.self c.in_ok-need_text.ensures c.drop_rest.ensures
