use Rattle.std.proofs.Common.{◌∙◌, sym, true}
use Rattle.std.specs.Prelude.{if◌then◌else◌}
use Rattle.station_lists.specs.Telling.{told_text}
use Rattle.station_lists.specs.declared.told.Told.TheVariants as told
use Rattle.station_sessions.specs.declared.presence.Presence.TheVariants.{Leaving}
use Rattle.station_sessions.specs.Sessions as sessions
use Rattle.station_users.specs.Ending.{idle_told, idle_where, is_idle}
use Rattle.station_users.specs.Steps.{At}
use Rattle.station_users.specs.Telling.{tell}
use Rattle.station_users.proofs.Going.{by_look, then_session}
use Rattle.station_users.proofs.ending.end_idle.Goals as goal

pub returns-in_ok-tell : goal.returns-in_ok-tell
unfolding idle_where
returns-in_ok-tell c =
    let old = c.args.sides.now in
    let before = c.args.session.now in
    by_look (λ (a : At). is_idle c.args.limit c.args.turn.moment a.session) (λ idle a. if idle then idle_told a else a) true old before old
    c.set_presence.new.self (λ s stand. sym c.if-is_idle.true ∙ c.is_idle.ensures)
    (then_session (tell (told_text told.Idle)) (sessions.with_presence Leaving) old before old c.tell.new.session c.set_presence.new.self
    c.in_ok-tell.ensures c.set_presence.ensures)
