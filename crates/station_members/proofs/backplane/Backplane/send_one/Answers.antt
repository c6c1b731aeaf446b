use Rattle.std.proofs.Common.{refl}
use Rattle.station_members.specs.declared.backplane.Backplane.{Backplane}
use Rattle.station_members.proofs.Moves.{sends}
use Rattle.station_members.proofs.backplane.Backplane.send_one.Goals as goal

pub returns : goal.returns
returns c =
    let old = c.args.self.now in
    let mid : Backplane = record old { desk = c.route.new.self } in
    sends old mid _ c.args.now c.args.from c.args.frame.now c.in_ok-parcel.parcel refl c.in_ok-parcel.ensures.goes c.in_ok-parcel.ensures.parcel c.in_ok-deliver.ensures
