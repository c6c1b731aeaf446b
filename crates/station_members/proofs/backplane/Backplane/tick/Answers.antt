use Rattle.std.proofs.Common.{refl}
use Rattle.station_members.specs.declared.backplane.Backplane.{Backplane}
use Rattle.station_members.specs.Waiting.{beacons_sent}
use Rattle.station_members.proofs.Giving.{works}
use Rattle.station_members.proofs.backplane.Backplane.tick.Goals as goal

pub returns : goal.returns
returns c = λ s t.
    let all = c.tick_all.new.self in
    let then : Backplane = record all { desk = c.send_beacons.new.self } in
    c.in_ok-send_held.ensures _ (works all then (beacons_sent c.args.now.0) refl c.in_ok-send_beacons.ensures _ (c.in_ok-tick_all.ensures s t))
