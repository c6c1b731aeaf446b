use Rattle.station_lists.specs.Telling.{told_text}
use Rattle.station_lists.specs.declared.told.Told.TheVariants as told
use Rattle.station_sessions.specs.Sessions as sessions
use Rattle.station_users.specs.Steps.{at_session}
use Rattle.station_users.specs.Telling.{answer}
use Rattle.station_users.specs.Texts.{cut_line}
use Rattle.station_users.specs.Things.{close_far, stop_try}
use Rattle.station_users.proofs.Going.{changes, then, then_session}
use Rattle.station_users.proofs.things.stop_try.Goals as goal

pub returns : goal.returns
unfolding stop_try
returns c =
    let now = c.args.turn.moment in
    let old = c.args.sides.now in
    let before = c.args.session.now in
    let cut = changes cut_line old before c.cut_line.new.session c.cut_line.ensures in
    let closed = then (at_session cut_line) (close_far now) old before old c.cut_line.new.session c.close_far.new.sides
    c.close_far.new.session cut c.in_ok-close_far.ensures in
    let back = then_session (λ a. close_far now (at_session cut_line a)) (sessions.come_back now.0) old before c.close_far.new.sides
    c.close_far.new.session c.come_back.new.self closed c.come_back.ensures in
    then (λ a. at_session (sessions.come_back now.0) (close_far now (at_session cut_line a))) (answer (told_text told.Stopped) now)
    old before c.close_far.new.sides c.come_back.new.self c.answer.new.sides c.answer.new.session back c.in_ok-answer.ensures
