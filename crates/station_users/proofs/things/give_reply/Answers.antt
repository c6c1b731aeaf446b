use Rattle.std.proofs.Common.{subst}
use Rattle.std.specs.Prelude.{Some, None}
use Rattle.station_sessions.specs.Sessions as sessions
use Rattle.station_users.specs.Standing.{AtGoes}
use Rattle.station_users.specs.Steps.{At, at_session}
use Rattle.station_users.specs.Telling.{say}
use Rattle.station_users.specs.Things.{give_reply, say_if}
use Rattle.station_users.proofs.Going.{by_look, changes, then}
use Rattle.station_users.proofs.things.give_reply.Goals as goal

pub returns-in_ok-say-in-Some : goal.returns-in_ok-say-in-Some
unfolding give_reply
returns-in_ok-say-in-Some c =
    let now = c.args.turn.moment in
    let old = c.args.sides.now in
    let before = c.args.session.now in
    let dropped = changes sessions.drop_reply old before c.next_reply.new.self c.in-Some.ensures.rest in
    let said = subst (λ t. AtGoes (say t now) old c.next_reply.new.self c.say.new.sides c.say.new.session) c.bytes.ensures c.in_ok-say-in-Some.ensures in
    by_look (λ (a : At). sessions.first a.session.replies) (λ text a. say_if text now (at_session sessions.drop_reply a)) (Some c.in-Some.reply)
    old before c.say.new.sides c.say.new.session (λ s stand. c.in-Some.ensures.reply)
    (then (at_session sessions.drop_reply) (say c.in-Some.reply now) old before old c.next_reply.new.self c.say.new.sides c.say.new.session
    dropped said)

pub returns-in-None : goal.returns-in-None
unfolding give_reply
returns-in-None c =
    let now = c.args.turn.moment in
    let old = c.args.sides.now in
    let before = c.args.session.now in
    by_look (λ (a : At). sessions.first a.session.replies) (λ text a. say_if text now (at_session sessions.drop_reply a)) None
    old before old c.next_reply.new.self (λ s stand. c.in-None.ensures.reply)
    (changes sessions.drop_reply old before c.next_reply.new.self c.in-None.ensures.rest)
