use Rattle.std.proofs.Common.{◌<◌, ◌≤◌, sym, length, arith}
use Rattle.station_members.specs.Ports.{hears}
use Rattle.station_members.proofs.Places.{place_past, place_set}
use Rattle.station_members.proofs.ports.note_at.Goals as goal

pub returns-then-at-len : goal.returns-then-at-len
returns-then-at-len c =
    let h : c.args.at < length c.args.ports.now.items = omega (arith, c.if-at-len.true, c.len.ensures) in
    place_set c.args.ports.now.items c.args.at (hears c.args.hop.now c.args.now) c.index_mut.result.now c.note.new.self h c.index_mut.ensures.value c.note.ensures

pub returns-else-at-len : goal.returns-else-at-len
returns-else-at-len c =
    let h : length c.args.ports.now.items ≤ c.args.at = omega (arith, c.if-at-len.false, c.len.ensures) in
    sym (place_past c.args.ports.now.items c.args.at (hears c.args.hop.now c.args.now) h)
