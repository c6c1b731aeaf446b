use Rattle.std.proofs.Common.{◌<◌, ◌≤◌, ap, refl, length, arith}
use Rattle.station_users.specs.Ending.{idle_where}
use Rattle.station_users.specs.States.{UsersState, at_nth}
use Rattle.station_users.proofs.Halls.{hall_by_look, nth_goes, nth_past}
use Rattle.station_users.proofs.hall.Hall.end_idle_nth.Goals as goal

pub returns-in_ok-end_idle : goal.returns-in_ok-end_idle
returns-in_ok-end_idle c =
    let h : c.args.nth < length c.args.self.now.sessions.items = omega (arith, c.if-nth-len.true, c.len.ensures) in
    hall_by_look (λ (u : UsersState). u.about.idle) (λ limit u. at_nth c.args.nth (idle_where limit c.args.turn.moment) u) c.args.self.now.about.idle c.args.self.now _
    (λ u t. ap (λ w. w.idle) t.about)
    (nth_goes (idle_where c.args.self.now.about.idle c.args.turn.moment) c.args.self.now _ c.args.nth c.index_mut.result.now c.end_idle.new.session h c.index_mut.ensures.value
    c.in_ok-end_idle.ensures refl (record { about = refl; stopping = refl; started = refl }))

pub returns-else-nth-len : goal.returns-else-nth-len
returns-else-nth-len c =
    let h : length c.args.self.now.sessions.items ≤ c.args.nth = omega (arith, c.if-nth-len.false, c.len.ensures) in
    hall_by_look (λ (u : UsersState). u.about.idle) (λ limit u. at_nth c.args.nth (idle_where limit c.args.turn.moment) u) c.args.self.now.about.idle c.args.self.now c.args.self.now
    (λ u t. ap (λ w. w.idle) t.about)
    (nth_past (idle_where c.args.self.now.about.idle c.args.turn.moment) c.args.self.now c.args.nth h)
