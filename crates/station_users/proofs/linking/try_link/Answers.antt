use Rattle.std.proofs.Common.{subst}
use Rattle.ax_address.specs.Callsign.{Callsign}
use Rattle.node_core.specs.Acts.{OpenLink}
use Rattle.station_members.specs.States.{act}
use Rattle.station_places.specs.Sides as places
use Rattle.station_users.specs.Linking.{first_hop, link_asked, open_answer, set_up, try_link}
use Rattle.station_users.specs.Standing.{AtGoes}
use Rattle.station_users.specs.Steps.{At, at_members}
use Rattle.station_users.proofs.Going.{acts, by_look, then}
use Rattle.station_users.proofs.linking.try_link.Goals as goal

pub returns : goal.returns
unfolding try_link
returns c =
    let now = c.args.turn.moment in
    let member = c.args.member in
    let port = c.args.port in
    let peer = c.args.peer.now in
    let path = c.args.path in
    let old = c.args.sides.now in
    let before = c.args.session.now in
    let came = c.in_ok-came.came in
    let opens = act now member (OpenLink peer path) in
    let acted = acts (places.at_members opens) old c.set_up.new.sides before c.in_ok-came.ensures.goes in
    let asked = subst (λ (h : Callsign). AtGoes (link_asked came member port h peer now) c.set_up.new.sides before c.link_asked.new.sides
    c.link_asked.new.session) c.first_hop-hop.ensures c.in_ok-link_asked.ensures in
    by_look (λ (a : At). set_up (open_answer now member peer path a))
    (λ o a. link_asked o member port (first_hop peer path) peer now (at_members opens a)) came
    old before c.link_asked.new.sides c.link_asked.new.session c.in_ok-came.ensures.answer
    (then (at_members opens) (link_asked came member port (first_hop peer path) peer now) old before c.set_up.new.sides before
    c.link_asked.new.sides c.link_asked.new.session acted asked)
