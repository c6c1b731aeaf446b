use Rattle.std.proofs.Common.{◌≡◌, ◌∙◌, subst, sym, false}
use Rattle.std.specs.Prelude.{if◌then◌else◌}
use Rattle.station_sessions.specs.declared.place.Place.TheVariants.{Link}
use Rattle.station_users.specs.States.{is_taken}
use Rattle.station_users.specs.Unclaimed.{come, drop_untaken, drops_untaken, take_link_text, takes_link_text}
use Rattle.station_users.proofs.Halls.{hall_by_look, hall_then}
use Rattle.station_users.proofs.hall.Hall.take_link_text.Goals as goal

pub returns-clause-goes : goal.returns-clause-goes
unfolding take_link_text
returns-clause-goes c =
    let now = c.args.turn.moment in
    let place = Link c.args.member c.args.peer.now in
    let comes = come c.args.member c.args.peer.now now in
    hall_by_look (is_taken place) (λ taken u. if taken then u else drop_untaken place now (comes u)) false c.args.self.now c.drop_untaken.new.self
    (λ u t. sym c.if-is_taken.false ∙ c.is_taken.ensures u t)
    (hall_then comes (drop_untaken place now) c.args.self.now c.come.new.self c.drop_untaken.new.self c.in_ok-come.ensures
    c.in_ok-dropped.ensures.goes)

pub returns-clause-dropped : goal.returns-clause-dropped
unfolding takes_link_text
returns-clause-dropped c = λ u t.
    let now = c.args.turn.moment in
    let place = Link c.args.member c.args.peer.now in
    let comes = come c.args.member c.args.peer.now now u in
    subst (λ taken. c.in_ok-dropped.dropped ≡ (if taken then false else drops_untaken place now comes))
    (sym c.if-is_taken.false ∙ c.is_taken.ensures u t) (c.in_ok-dropped.ensures.dropped _ (c.in_ok-come.ensures u t))
