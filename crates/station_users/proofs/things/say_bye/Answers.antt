use Rattle.std.proofs.Common.{◌∙◌, ap}
use Rattle.station_lists.specs.Telling.{told_text}
use Rattle.station_lists.specs.declared.told.Told.TheVariants as told
use Rattle.station_sessions.specs.declared.presence.Presence.TheVariants.{Leaving}
use Rattle.station_sessions.specs.Sessions as sessions
use Rattle.station_users.specs.Steps.{at_session}
use Rattle.station_users.specs.Telling.{answer}
use Rattle.station_users.specs.Things.{leave, say_bye}
use Rattle.station_users.proofs.Going.{then, then_session}
use Rattle.station_users.proofs.things.say_bye.Goals as goal

pub returns : goal.returns
unfolding say_bye
returns c =
    let now = c.args.turn.moment in
    let old = c.args.sides.now in
    let before = c.args.session.now in
    let said = then_session (answer (told_text told.Bye) now) (λ x. sessions.drop_rest (sessions.with_presence Leaving x)) old before
    c.answer.new.sides c.answer.new.session c.drop_rest.new.self c.in_ok-answer.ensures
    (c.drop_rest.ensures ∙ ap sessions.drop_rest c.set_presence.ensures) in
    then (λ a. at_session (λ x. sessions.drop_rest (sessions.with_presence Leaving x)) (answer (told_text told.Bye) now a)) (leave now)
    old before c.answer.new.sides c.drop_rest.new.self c.leave.new.sides c.leave.new.session said c.in_ok-leave.ensures
