use Rattle.std.proofs.Common.{◌<◌, ◌≤◌, refl, length, arith}
use Rattle.station_users.specs.Consoles.{type_at, typed}
use Rattle.station_users.proofs.Going.{changes}
use Rattle.station_users.proofs.Halls.{nth_goes, nth_past}
use Rattle.station_users.proofs.hall.Hall.type_nth.Goals as goal

pub returns-in_ok-type_at : goal.returns-in_ok-type_at
returns-in_ok-type_at c =
    let h : c.args.nth < length c.args.self.now.sessions.items = omega (arith, c.if-nth-len.true, c.len.ensures) in
    nth_goes (type_at c.args.text.now) c.args.self.now _ c.args.nth c.index_mut.result.now c.type_at.new.session h c.index_mut.ensures.value
    (changes (typed c.args.text.now) c.args.self.now.sides c.index_mut.result.now c.type_at.new.session c.in_ok-type_at.ensures) refl
    (record { about = refl; stopping = refl; started = refl })

pub returns-else-nth-len : goal.returns-else-nth-len
returns-else-nth-len c =
    let h : length c.args.self.now.sessions.items ≤ c.args.nth = omega (arith, c.if-nth-len.false, c.len.ensures) in
    nth_past (type_at c.args.text.now) c.args.self.now c.args.nth h
