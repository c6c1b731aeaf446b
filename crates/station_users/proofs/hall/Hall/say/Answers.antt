use Rattle.std.proofs.Common.{◌<◌, ◌≤◌, refl, length, arith}
use Rattle.station_users.specs.Telling.{say}
use Rattle.station_users.proofs.Halls.{nth_goes, nth_past}
use Rattle.station_users.proofs.hall.Hall.say.Goals as goal

pub returns-in_ok-say : goal.returns-in_ok-say
returns-in_ok-say c =
    let h : c.args.nth < length c.args.self.now.sessions.items = omega (arith, c.if-nth-len.true, c.len.ensures) in
    nth_goes (say c.args.text.now c.args.turn.moment) c.args.self.now _ c.args.nth c.index_mut.result.now c.say.new.session h c.index_mut.ensures.value
    c.in_ok-say.ensures refl (record { about = refl; stopping = refl; started = refl })

pub returns-else-nth-len : goal.returns-else-nth-len
returns-else-nth-len c =
    let h : length c.args.self.now.sessions.items ≤ c.args.nth = omega (arith, c.if-nth-len.false, c.len.ensures) in
    nth_past (say c.args.text.now c.args.turn.moment) c.args.self.now c.args.nth h
