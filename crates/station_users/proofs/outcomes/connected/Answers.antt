use Rattle.std.specs.Prelude.{Some, None}
use Rattle.station_lists.specs.Telling.{told_text}
use Rattle.station_lists.specs.declared.told.Told.TheVariants as told
use Rattle.station_users.specs.Outcomes.{connected, stood, tell_connected, tried_name}
use Rattle.station_users.specs.Steps.{At, at_session}
use Rattle.station_users.specs.Telling.{tell}
use Rattle.station_users.proofs.Going.{by_look, changes, then}
use Rattle.station_users.proofs.outcomes.connected.Goals as goal

pub returns-in_ok-tell-in-Some : goal.returns-in_ok-tell-in-Some
unfolding connected
returns-in_ok-tell-in-Some c =
    let old = c.args.sides.now in
    let before = c.args.session.now in
    let name = c.in-Some.name in
    let stands = changes stood old before c.stand.new.session c.in-Some.ensures.session in
    by_look (λ (a : At). tried_name a.session.stage) (λ n a. tell_connected n (at_session stood a)) (Some name) old before old c.tell.new.session
    (λ s stand. c.in-Some.ensures.name)
    (then (at_session stood) (tell (told_text (told.Connected name))) old before old c.stand.new.session old c.tell.new.session stands
    c.in_ok-tell-in-Some.ensures)

pub returns-in-None : goal.returns-in-None
unfolding connected
returns-in-None c =
    let old = c.args.sides.now in
    let before = c.args.session.now in
    by_look (λ (a : At). tried_name a.session.stage) (λ n a. tell_connected n (at_session stood a)) None old before old c.stand.new.session
    (λ s stand. c.in-None.ensures.name) (changes stood old before c.stand.new.session c.in-None.ensures.session)
