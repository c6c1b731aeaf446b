use Rattle.std.proofs.Common.{◌≡◌, length}
use Rattle.station_members.specs.Ports.{air_of}
use Rattle.station_members.specs.Waiting.{due_of, lets_go, put_each}
use Rattle.station_members.proofs.seat.Seat.send_held.Given as goal

abbrev pub invariant-loop-frame : goal.invariant-loop-frame
invariant-loop-frame l = record {
  seat : lets_go l.now l.self ≡ lets_go l.now l.fn.self;
  air : put_each (due_of l.now l.self) (air_of l.ports) ≡ put_each (due_of l.now l.fn.self) (air_of l.fn.ports);
}

abbrev pub decreases-loop-frame : goal.decreases-loop-frame
decreases-loop-frame l = length l.self.held
