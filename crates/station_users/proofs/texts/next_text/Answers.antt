use Rattle.std.specs.Prelude.{None}
use Rattle.station_sessions.specs.Sessions as sessions
use Rattle.station_users.specs.Steps.{At, at_session}
use Rattle.station_users.specs.Texts.{begin_next, take_text}
use Rattle.station_users.proofs.Going.{by_look, changes, then}
use Rattle.station_users.proofs.texts.next_text.Goals as goal

pub returns-in_ok-take_text-in-None : goal.returns-in_ok-take_text-in-None
returns-in_ok-take_text-in-None c =
    let now = c.args.turn.moment in
    let old = c.args.sides.now in
    let before = c.args.session.now in
    let dropped = changes sessions.drop_typed old before c.next_typed.new.self c.in-None.ensures.rest in
    by_look (λ (a : At). sessions.first a.session.typed) (λ text a. begin_next text now (at_session sessions.drop_typed a)) None
    old before c.take_text.new.sides c.take_text.new.session (λ s stand. c.in-None.ensures.text)
    (then (at_session sessions.drop_typed) (take_text now) old before old c.next_typed.new.self c.take_text.new.sides
    c.take_text.new.session dropped c.in_ok-take_text-in-None.ensures)
