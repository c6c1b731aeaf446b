use Rattle.std.proofs.Common.{◌<◌, ◌≤◌, refl, length, arith}
use Rattle.station_users.specs.Things.{do_thing}
use Rattle.station_users.proofs.Halls.{nth_goes, nth_past}
use Rattle.station_users.proofs.hall.Hall.do_other.Goals as goal

pub returns-in_ok-do_thing : goal.returns-in_ok-do_thing
returns-in_ok-do_thing c =
    let h : c.args.nth < length c.args.self.now.sessions.items = omega (arith, c.if-nth-len.true, c.len.ensures) in
    nth_goes (do_thing c.args.thing c.args.turn.moment) c.args.self.now _ c.args.nth c.index_mut.result.now c.do_thing.new.session h c.index_mut.ensures.value
    c.in_ok-do_thing.ensures refl (record { about = refl; stopping = refl; started = refl })

pub returns-else-nth-len : goal.returns-else-nth-len
returns-else-nth-len c =
    let h : length c.args.self.now.sessions.items ≤ c.args.nth = omega (arith, c.if-nth-len.false, c.len.ensures) in
    nth_past (do_thing c.args.thing c.args.turn.moment) c.args.self.now c.args.nth h
