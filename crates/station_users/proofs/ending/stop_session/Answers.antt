use Rattle.station_sessions.specs.declared.far.Stage.TheVariants.{AtPrompt}
use Rattle.station_sessions.specs.Sessions as sessions
use Rattle.station_users.specs.Ending.{stop_session, told_down}
use Rattle.station_users.specs.Steps.{at_session}
use Rattle.station_users.specs.Things.{close_far}
use Rattle.station_users.proofs.Going.{then, then_session}
use Rattle.station_users.proofs.ending.stop_session.Goals as goal

pub returns : goal.returns
unfolding stop_session
returns c =
    let now = c.args.turn.moment in
    let closed = then_session (close_far now) (sessions.with_stage AtPrompt) c.args.sides.now c.args.session.now c.close_far.new.sides
    c.close_far.new.session c.set_stage.new.self c.in_ok-close_far.ensures c.set_stage.ensures in
    then (λ a. at_session (sessions.with_stage AtPrompt) (close_far now a)) told_down c.args.sides.now c.args.session.now
    c.close_far.new.sides c.set_stage.new.self c.close_far.new.sides c.say_down.new.session closed c.in_ok-say_down.ensures
