use Rattle.std.proofs.Common.{refl, subst}
use Rattle.station_members.specs.declared.backplane.Backplane.{Backplane}
use Rattle.station_members.specs.Standing.{PlaneGoes}
use Rattle.station_members.specs.States.{Fellow, frame_in, give}
use Rattle.station_members.proofs.Giving.{gives}
use Rattle.station_members.proofs.backplane.Backplane.deliver.Goals as goal

pub returns-in_ok-give_frame-in-For : goal.returns-in_ok-give_frame-in-For
returns-in_ok-give_frame-in-For c =
    let old = c.args.self.now in
    let new : Backplane = record old { nodes = c.give_frame.new.nodes } in
    let goes = gives old new c.in-For.to (Fellow c.args.from) (frame_in c.args.now c.as_slice.result.now) refl c.in_ok-give_frame-in-For.ensures.goes in
    rw c.in-For.is (subst (λ o. PlaneGoes (give c.in-For.to (Fellow c.args.from) (frame_in c.args.now o)) old new) c.as_slice.ensures goes)
