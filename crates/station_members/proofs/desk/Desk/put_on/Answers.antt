use Rattle.std.proofs.Common.{◌<◌, ◌≤◌, length, arith}
use Rattle.station_members.specs.Desks.{desk_of}
use Rattle.station_members.proofs.DeskMoves.{puts, puts_none}
use Rattle.station_members.proofs.desk.Desk.put_on.Goals as goal

pub returns-in_ok-put_on : goal.returns-in_ok-put_on
returns-in_ok-put_on c =
    let h : c.args.from < length c.args.self.now.seats.items = omega (arith, c.if-from-len.true, c.len.ensures) in
    puts (desk_of c.args.self.now) c.args.from c.args.out.now c.args.port c.args.now c.index_mut.result.now c.put_on.new.self _ h c.index_mut.ensures.value c.in_ok-put_on.ensures.seat c.in_ok-put_on.ensures.air

pub returns-else-from-len : goal.returns-else-from-len
returns-else-from-len c =
    let h : length c.args.self.now.seats.items ≤ c.args.from = omega (arith, c.if-from-len.false, c.len.ensures) in
    puts_none (desk_of c.args.self.now) c.args.from c.args.out.now c.args.port c.args.now h
