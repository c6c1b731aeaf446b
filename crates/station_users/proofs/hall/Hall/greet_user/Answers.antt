use Rattle.std.proofs.Common.{◌∙◌, subst, sym, true, false}
use Rattle.std.specs.Prelude.{Some, if◌then◌else◌}
use Rattle.station_sessions.specs.declared.place.Place.TheVariants.{End}
use Rattle.station_sessions.specs.Sessions.{new_session}
use Rattle.station_users.specs.Greeting.{close_end, greet, serves}
use Rattle.station_users.specs.Standing.{HallGoes}
use Rattle.station_users.proofs.Halls.{hall_by_look}
use Rattle.station_users.proofs.hall.Hall.greet_user.Goals as goal

pub returns-in_ok-greet : goal.returns-in_ok-greet
returns-in_ok-greet c =
    let now = c.args.turn.moment in
    let member = c.args.member in
    let id = c.args.id in
    let old = c.args.self.now in
    let session = new_session c.args.user member (Some c.args.partner.now) (End member id) now.0 in
    let greets = subst (λ x. HallGoes (greet x now) old c.greet.new.self) c.new-session.ensures c.in_ok-greet.ensures in
    hall_by_look (serves member) (λ served u. if served then greet session now u else close_end member id now u) true old c.greet.new.self
    (λ u t. sym c.if-serves.true ∙ c.serves.ensures u t) greets

pub returns-in_ok-close_end : goal.returns-in_ok-close_end
returns-in_ok-close_end c =
    let now = c.args.turn.moment in
    let member = c.args.member in
    let id = c.args.id in
    let old = c.args.self.now in
    let session = new_session c.args.user member (Some c.args.partner.now) (End member id) now.0 in
    hall_by_look (serves member) (λ served u. if served then greet session now u else close_end member id now u) false old c.close_end.new.self
    (λ u t. sym c.if-serves.false ∙ c.serves.ensures u t) c.in_ok-close_end.ensures
