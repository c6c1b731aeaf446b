use Rattle.std.proofs.Common.{◌<◌, ◌≤◌, ap, refl, length, arith}
use Rattle.text_lines.specs.Lines.{texts}
use Rattle.station_users.specs.Linking.{connect_by_port}
use Rattle.station_users.specs.States.{UsersState, at_nth}
use Rattle.station_users.proofs.Halls.{hall_by_look, nth_goes, nth_past}
use Rattle.station_users.proofs.hall.Hall.connect_by_port.Goals as goal

pub returns-in_ok-connect_by_port : goal.returns-in_ok-connect_by_port
returns-in_ok-connect_by_port c =
    let h : c.args.nth < length c.args.self.now.sessions.items = omega (arith, c.if-nth-len.true, c.len.ensures) in
    hall_by_look (λ (u : UsersState). u.about) (λ who u. at_nth c.args.nth (connect_by_port c.args.port.now c.args.to.now (texts c.args.via.now) who c.args.turn.moment) u) c.args.self.now.about c.args.self.now _
    (λ u t. t.about)
    (nth_goes (connect_by_port c.args.port.now c.args.to.now (texts c.args.via.now) c.args.self.now.about c.args.turn.moment) c.args.self.now _ c.args.nth c.index_mut.result.now c.connect_by_port.new.session h c.index_mut.ensures.value
    c.in_ok-connect_by_port.ensures refl (record { about = refl; stopping = refl; started = refl }))

pub returns-else-nth-len : goal.returns-else-nth-len
returns-else-nth-len c =
    let h : length c.args.self.now.sessions.items ≤ c.args.nth = omega (arith, c.if-nth-len.false, c.len.ensures) in
    hall_by_look (λ (u : UsersState). u.about) (λ who u. at_nth c.args.nth (connect_by_port c.args.port.now c.args.to.now (texts c.args.via.now) who c.args.turn.moment) u) c.args.self.now.about c.args.self.now c.args.self.now
    (λ u t. t.about)
    (nth_past (connect_by_port c.args.port.now c.args.to.now (texts c.args.via.now) c.args.self.now.about c.args.turn.moment) c.args.self.now c.args.nth h)
