use Rattle.std.proofs.Common.{◌<◌, ◌≤◌, length, arith}
use Rattle.station_members.specs.Desks.{desk_of}
use Rattle.station_members.proofs.DeskMoves.{lets, lets_none}
use Rattle.station_members.proofs.desk.Desk.send_held.Goals as goal

pub returns-in_ok-send_held : goal.returns-in_ok-send_held
returns-in_ok-send_held c =
    let h : c.args.at < length c.args.self.now.seats.items = omega (arith, c.if-at-len.true, c.len.ensures) in
    lets (desk_of c.args.self.now) c.args.at c.args.now c.index_mut.result.now c.send_held.new.self _ h c.index_mut.ensures.value c.in_ok-send_held.ensures.seat c.in_ok-send_held.ensures.air

pub returns-else-at-len : goal.returns-else-at-len
returns-else-at-len c =
    let h : length c.args.self.now.seats.items ≤ c.args.at = omega (arith, c.if-at-len.false, c.len.ensures) in
    lets_none (desk_of c.args.self.now) c.args.at c.args.now h
