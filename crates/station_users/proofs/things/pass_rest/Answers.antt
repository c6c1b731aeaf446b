use Rattle.std.proofs.Common.{◌∙◌, ap}
use Rattle.station_sessions.specs.Sessions as sessions
use Rattle.station_users.specs.Steps.{At, at_session, far_place}
use Rattle.station_users.specs.Things.{pass_rest, pass_to}
use Rattle.station_users.proofs.Going.{by_look, changes, then}
use Rattle.station_users.proofs.things.pass_rest.Goals as goal

pub returns : goal.returns
unfolding pass_rest
returns c =
    let now = c.args.turn.moment in
    let old = c.args.sides.now in
    let before = c.args.session.now in
    let text = c.deref.result.now in
    let far = c.far_place.result in
    let dropped = changes sessions.drop_rest old before c.drop_rest.new.self c.drop_rest.ensures in
    by_look (λ (a : At). a.session.rest) (λ t a. pass_to (far_place a.session) t now (at_session sessions.drop_rest a)) text
    old before c.pass_to.new.sides c.pass_to.new.session (λ s stand. c.deref.ensures.value ∙ (c.in_ok-text.ensures.items_if_clones_equal (λ x y h. h) ∙ c.rest.ensures))
    (by_look (λ (a : At). far_place a.session) (λ f a. pass_to f text now (at_session sessions.drop_rest a)) far
    old before c.pass_to.new.sides c.pass_to.new.session (λ s stand. c.far_place.ensures ∙ ap far_place c.drop_rest.ensures)
    (then (at_session sessions.drop_rest) (pass_to far text now) old before old c.drop_rest.new.self c.pass_to.new.sides
    c.pass_to.new.session dropped c.in_ok-pass_to.ensures))
