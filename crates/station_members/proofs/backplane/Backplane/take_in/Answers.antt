use Rattle.std.proofs.Common.{◌∙◌, refl, subst}
use Rattle.station_members.specs.declared.backplane.Backplane.{Backplane}
use Rattle.station_members.specs.Standing.{PlaneGoes}
use Rattle.station_members.specs.States.{Port, frame_in, give}
use Rattle.station_members.proofs.Giving.{gives}
use Rattle.station_members.proofs.backplane.Backplane.take_in.Goals as goal

pub returns-in_ok-give_frame-in-AsItCame : goal.returns-in_ok-give_frame-in-AsItCame
returns-in_ok-give_frame-in-AsItCame c =
    rw c.in-AsItCame.is (gives c.args.self.now _ c.args.at (Port c.args.port) (frame_in c.args.now c.args.octets.now) refl c.in_ok-give_frame-in-AsItCame.ensures.goes)

pub returns-in_ok-give_frame-in-To : goal.returns-in_ok-give_frame-in-To
returns-in_ok-give_frame-in-To c =
    let old = c.args.self.now in
    let new : Backplane = record old { nodes = c.give_frame-in-To.new.nodes } in
    let is = c.as_slice.ensures ∙ c.in_ok-octets-in-To.ensures in
    rw c.in-To.is (subst (λ o. PlaneGoes (give c.args.at (Port c.args.port) (frame_in c.args.now o)) old new) is
    (gives old new c.args.at (Port c.args.port) (frame_in c.args.now c.as_slice.result.now) refl c.in_ok-give_frame-in-To.ensures.goes))
