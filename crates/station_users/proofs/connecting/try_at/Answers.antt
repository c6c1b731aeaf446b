use Rattle.station_lists.specs.Telling.{told_text}
use Rattle.std.proofs.Common.{◌∙◌, ap}
use Rattle.station_lists.specs.declared.told.Told.TheVariants as told
use Rattle.station_sessions.specs.declared.far.Stage.TheVariants.{Trying}
use Rattle.station_sessions.specs.Sessions as sessions
use Rattle.station_users.specs.Connecting.{new_far, try_at}
use Rattle.station_users.specs.Steps.{at_session}
use Rattle.station_users.specs.Telling.{answer}
use Rattle.station_users.proofs.Going.{changes, then}
use Rattle.station_users.proofs.connecting.try_at.Goals as goal

pub returns : goal.returns
unfolding try_at
returns c =
    let now = c.args.turn.moment in
    let tries = sessions.with_stage (Trying (new_far c.args.place c.args.name.now)) in
    let tried = changes tries c.args.sides.now c.args.session.now c.tries.new.self
    (c.tries.ensures ∙ ap (λ far. sessions.with_stage (Trying far) c.args.session.now) c.new_far.ensures) in
    then (at_session tries) (answer (told_text (told.Trying c.args.name.now)) now) c.args.sides.now c.args.session.now c.args.sides.now
    c.tries.new.self c.say_trying.new.sides c.say_trying.new.session tried c.in_ok-say_trying.ensures
