use Rattle.std.proofs.Common.{◌∙◌, ap, refl, subst}
use Rattle.node_core.specs.Acts.{ConnectFor}
use Rattle.station_looks.specs.Naming as naming
use Rattle.station_members.specs.States.{act, act_answer}
use Rattle.station_places.specs.Sides as places
use Rattle.station_places.specs.Sides.{SidesGo}
use Rattle.station_users.specs.Connecting.{asked_for, made_in, try_circuit, try_made}
use Rattle.station_users.specs.Steps.{At, at_members}
use Rattle.station_users.proofs.Going.{by_look, then}
use Rattle.station_users.proofs.connecting.try_circuit.Goals as goal

pub returns : goal.returns
unfolding try_circuit
returns c =
    let now = c.args.turn.moment in
    let member = c.args.member in
    let dest = c.args.dest.now in
    let old = c.args.sides.now in
    let before = c.args.session.now in
    let made = c.in_ok-made.made in
    let name = c.shown-name.result in
    let asks : At → At = λ a. at_members (act now member (ConnectFor a.session.user dest)) a in
    let goes = subst (λ u. SidesGo (places.act now member (ConnectFor u dest)) old c.ask.new.sides) c.user.ensures c.in_ok-made.ensures.goes in
    by_look (λ (a : At). made_in (asked_for now member dest a)) (λ o a. try_made o member (naming.shown dest a.sides.members) now (asks a)) made
    old before c.try_made.new.sides c.try_made.new.session
    (λ s stand. c.in_ok-made.ensures.end s stand ∙ ap (λ u. made_in (act_answer now member (ConnectFor u dest) s.members)) c.user.ensures)
    (by_look (λ (a : At). naming.shown dest a.sides.members) (λ n a. try_made made member n now (asks a)) name
    old before c.try_made.new.sides c.try_made.new.session (λ s stand. c.shown-name.ensures s.members stand.members)
    (then asks (try_made made member name now) old before c.ask.new.sides before c.try_made.new.sides c.try_made.new.session
    (λ s stand. record { sides = goes s stand; session = refl }) c.in_ok-try_made.ensures))
