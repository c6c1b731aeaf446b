use Rattle.std.proofs.Common.{◌≡◌}
use Rattle.station_places.proofs.Dropping.{Drops}
use Rattle.station_places.proofs.sides.Sides.drop_up_to.Given as goal

abbrev pub invariant-loop : goal.invariant-loop
invariant-loop l = record {
  goes : Drops l.counter l.most l.place l.now l.fn.self l.self;
  outs : l.self.outs ≡ l.fn.self.outs;
}
