use Rattle.std.proofs.Common.{◌<◌, ◌≤◌, refl, length, arith}
use Rattle.station_users.specs.Trying.{prepare}
use Rattle.station_users.proofs.Halls.{nth_goes, nth_past}
use Rattle.station_users.proofs.hall.Hall.prepare.Goals as goal

pub returns-in_ok-prepare : goal.returns-in_ok-prepare
returns-in_ok-prepare c =
    let h : c.args.nth < length c.args.self.now.sessions.items = omega (arith, c.if-nth-len.true, c.len.ensures) in
    nth_goes (prepare c.args.turn.moment) c.args.self.now _ c.args.nth c.index_mut.result.now c.prepare.new.session h c.index_mut.ensures.value
    c.in_ok-prepare.ensures refl (record { about = refl; stopping = refl; started = refl })

pub returns-else-nth-len : goal.returns-else-nth-len
returns-else-nth-len c =
    let h : length c.args.self.now.sessions.items ≤ c.args.nth = omega (arith, c.if-nth-len.false, c.len.ensures) in
    nth_past (prepare c.args.turn.moment) c.args.self.now c.args.nth h
