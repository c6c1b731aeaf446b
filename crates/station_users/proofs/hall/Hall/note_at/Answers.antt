use Rattle.std.proofs.Common.{◌<◌, ◌≤◌, refl, length, arith}
use Rattle.station_users.specs.Outcomes.{hear_notice}
use Rattle.station_users.proofs.Halls.{nth_goes, nth_past}
use Rattle.station_users.proofs.hall.Hall.note_at.Goals as goal

pub returns-in_ok-hear_notice : goal.returns-in_ok-hear_notice
returns-in_ok-hear_notice c =
    let h : c.args.nth < length c.args.self.now.sessions.items = omega (arith, c.if-nth-len.true, c.len.ensures) in
    nth_goes (hear_notice c.args.notice c.args.turn.moment) c.args.self.now _ c.args.nth c.index_mut.result.now c.hear_notice.new.session h c.index_mut.ensures.value
    c.in_ok-hear_notice.ensures refl (record { about = refl; stopping = refl; started = refl })

pub returns-else-nth-len : goal.returns-else-nth-len
returns-else-nth-len c =
    let h : length c.args.self.now.sessions.items ≤ c.args.nth = omega (arith, c.if-nth-len.false, c.len.ensures) in
    nth_past (hear_notice c.args.notice c.args.turn.moment) c.args.self.now c.args.nth h
