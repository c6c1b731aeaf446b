use Rattle.station_places.specs.Taking as taking
use Rattle.station_users.specs.Steps.{At, at_sides}
use Rattle.station_users.specs.Things.{say_if}
use Rattle.station_users.proofs.Going.{acts, by_look, then}
use Rattle.station_users.proofs.things.give_text_of.Goals as goal

pub returns : goal.returns
returns c =
    let now = c.args.turn.moment in
    let place = c.args.place.now in
    let old = c.args.sides.now in
    let before = c.args.session.now in
    let taken = acts (taking.take_from place now) old c.take_from.new.self before c.in_ok-text.ensures.goes in
    by_look (λ (a : At). taking.taken place now a.sides) (λ text a. say_if text now (at_sides (taking.take_from place now) a)) c.in_ok-text.text
    old before c.say_if.new.sides c.say_if.new.session c.in_ok-text.ensures.text
    (then (at_sides (taking.take_from place now)) (say_if c.in_ok-text.text now) old before c.take_from.new.self before
    c.say_if.new.sides c.say_if.new.session taken c.in_ok-say_if.ensures)
