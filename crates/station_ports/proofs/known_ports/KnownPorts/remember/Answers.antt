use Rattle.std.proofs.Common.{◌∙◌, ap}
use Rattle.station_ports.specs.Known.{port_of, remembered}
use Rattle.station_ports.proofs.Remembering.{moved_last, remembered_found}
use Rattle.station_ports.proofs.known_ports.KnownPorts.remember.Goals as goal

pub returns-clause-ok : goal.returns-clause-ok
returns-clause-ok c =
    let call = c.args.call.now in
    let moved = moved_last call c.args.port _ _ _ _ c.reserve.ensures.unique c.shift_remove.ensures.entries c.make_room.ensures.entries c.in_ok-insert.ensures.entries in
    rw (← c.self.view_is) (moved ∙ ap (remembered call c.args.port) c.reserve.ensures.entries)

pub returns-clause-found : goal.returns-clause-found
returns-clause-found c =
    let call = c.args.call.now in
    let once = c.reserve.ensures.unique in
    let moved = moved_last call c.args.port _ _ _ _ once c.shift_remove.ensures.entries c.make_room.ensures.entries c.in_ok-insert.ensures.entries in
    ap (port_of call) moved ∙ remembered_found call c.args.port _ once
