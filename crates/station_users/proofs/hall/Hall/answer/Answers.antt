use Rattle.std.proofs.Common.{◌<◌, ◌≤◌, refl, length, arith}
use Rattle.station_lists.specs.Telling.{told_text}
use Rattle.station_users.specs.Telling.{answer}
use Rattle.station_users.proofs.Halls.{nth_goes, nth_past}
use Rattle.station_users.proofs.hall.Hall.answer.Goals as goal

pub returns-in_ok-answer : goal.returns-in_ok-answer
returns-in_ok-answer c =
    let h : c.args.nth < length c.args.self.now.sessions.items = omega (arith, c.if-nth-len.true, c.len.ensures) in
    nth_goes (answer (told_text c.args.told.now) c.args.turn.moment) c.args.self.now _ c.args.nth c.index_mut.result.now c.answer.new.session h c.index_mut.ensures.value
    c.in_ok-answer.ensures refl (record { about = refl; stopping = refl; started = refl })

pub returns-else-nth-len : goal.returns-else-nth-len
returns-else-nth-len c =
    let h : length c.args.self.now.sessions.items ≤ c.args.nth = omega (arith, c.if-nth-len.false, c.len.ensures) in
    nth_past (answer (told_text c.args.told.now) c.args.turn.moment) c.args.self.now c.args.nth h
