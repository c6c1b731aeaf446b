use Rattle.std.proofs.Common.{subst}
use Rattle.station_members.specs.States.{remember}
use Rattle.station_places.specs.Sides as places
use Rattle.station_sessions.specs.declared.place.Place.TheVariants.{Link}
use Rattle.station_users.specs.Connecting.{try_at}
use Rattle.station_users.specs.Linking.{by_call}
use Rattle.station_users.specs.Standing.{AtGoes}
use Rattle.station_users.specs.Steps.{at_members}
use Rattle.station_users.proofs.Going.{acts, then}
use Rattle.station_users.proofs.linking.link_tried.Goals as goal

pub returns : goal.returns
returns c =
    let now = c.args.turn.moment in
    let member = c.args.member in
    let peer = c.args.peer.now in
    let old = c.args.sides.now in
    let before = c.args.session.now in
    let knows = remember member c.args.hop.now c.args.port in
    let known = acts (places.at_members knows) old c.remember.new.sides before c.in_ok-remember.ensures in
    let tried = subst (λ n. AtGoes (try_at (Link member peer) n now) c.remember.new.sides before c.try_at.new.sides c.try_at.new.session)
    c.by_call.ensures c.in_ok-try_at.ensures in
    then (at_members knows) (try_at (Link member peer) (by_call peer) now) old before c.remember.new.sides before c.try_at.new.sides
    c.try_at.new.session known tried
