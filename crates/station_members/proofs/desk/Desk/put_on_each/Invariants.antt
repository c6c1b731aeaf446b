use Rattle.std.proofs.Common.{◌≡◌, drop}
use Rattle.station_members.specs.Desks.{desk_of}
use Rattle.station_members.specs.Routing.{put_on_each}
use Rattle.station_members.proofs.desk.Desk.put_on_each.Given as goal

abbrev pub invariant-loop-port : goal.invariant-loop-port
invariant-loop-port l = put_on_each (drop l.port-index l.ports) l.from l.out l.now (desk_of l.self) ≡ put_on_each l.ports l.from l.out l.now (desk_of l.fn.self)
