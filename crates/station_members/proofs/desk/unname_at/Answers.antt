use Rattle.std.proofs.Common.{◌<◌, ◌≤◌, sym, length, arith}
use Rattle.station_members.specs.Seats.{unnames}
use Rattle.station_members.proofs.Places.{place_past, place_set}
use Rattle.station_members.proofs.desk.unname_at.Goals as goal

pub returns-then-at-len : goal.returns-then-at-len
returns-then-at-len c =
    let h : c.args.at < length c.args.seats.now.items = omega (arith, c.if-at-len.true, c.len.ensures) in
    place_set c.args.seats.now.items c.args.at (unnames c.args.peer.now) c.index_mut.result.now c.unname.new.self h c.index_mut.ensures.value c.unname.ensures

pub returns-else-at-len : goal.returns-else-at-len
returns-else-at-len c =
    let h : length c.args.seats.now.items ≤ c.args.at = omega (arith, c.if-at-len.false, c.len.ensures) in
    sym (place_past c.args.seats.now.items c.args.at (unnames c.args.peer.now) h)
