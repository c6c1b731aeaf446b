use Rattle.std.proofs.Common.{◌≡◌, ◌≤◌, ◌-◌, length}
use Rattle.station_places.proofs.Steps.{Sends}
use Rattle.station_places.proofs.sides.Sides.send_pieces.Given as goal

abbrev pub invariant-loop-sent : goal.invariant-loop-sent
invariant-loop-sent l = record {
  within : l.sent ≤ length l.text;
  sends : Sends l.now l.member l.peer l.sent l.most l.text l.fn.self l.self;
  outs : l.self.outs ≡ l.fn.self.outs;
}

abbrev pub decreases-loop-sent : goal.decreases-loop-sent
decreases-loop-sent l = length l.text - l.sent
