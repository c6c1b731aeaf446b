use Rattle.std.proofs.Common.{◌∙◌, subst, sym, false}
use Rattle.std.specs.Prelude.{None, if◌then◌else◌}
use Rattle.station_sessions.specs.declared.place.Place.TheVariants.{Console}
use Rattle.station_sessions.specs.Sessions.{new_session}
use Rattle.station_users.specs.Consoles.{hang_up, is_refused}
use Rattle.station_users.specs.Greeting.{greet}
use Rattle.station_users.specs.Standing.{HallGoes}
use Rattle.station_users.proofs.Halls.{hall_by_look, hall_then}
use Rattle.station_users.proofs.hall.Hall.open.Goals as goal

pub returns : goal.returns
returns c =
    let now = c.args.turn.moment in
    let console = c.args.console in
    let call = c.args.call.now in
    let old = c.args.self.now in
    let session = new_session call 0 None (Console console) now.0 in
    let greets = subst (λ x. HallGoes (greet x now) c.hang_up.new.self c.greet.new.self) c.new-session.ensures c.in_ok-greet.ensures in
    hall_by_look (is_refused console call) (λ no u. if no then u else greet session now (hang_up console u)) false old c.greet.new.self
    (λ u t. sym c.if-is_refused.false ∙ c.is_refused.ensures u t)
    (hall_then (hang_up console) (greet session now) old c.hang_up.new.self c.greet.new.self c.hang_up.ensures greets)
