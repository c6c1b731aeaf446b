use Rattle.std.proofs.Common.{ap}
use Rattle.std.specs.Prelude.{is_some}
use Rattle.station_places.proofs.Dropping.{all_dropped, none_dropped}
use Rattle.station_places.proofs.sides.Sides.drop_texts.Goals.{in-Some+in_ok-drop_up_to-in-Some, in-None}
use Rattle.station_places.proofs.sides.Sides.drop_texts.Goals as goal

pub returns-clause-goes : goal.returns-clause-goes
returns-clause-goes c = elim c.match-branch-2.branch [
  | in-Some+in_ok-drop_up_to-in-Some w ↦
      rw w.result-is (rw w.self-is (all_dropped c.args.place.now c.args.now c.args.self.now c.take_from.new.self w.drop_up_to.new.self
      c.in_ok-take_from.field-0 (ap is_some w.in-Some.is) c.in_ok-take_from.ensures.goes c.in_ok-take_from.ensures.text
      w.in_ok-drop_up_to-in-Some.ensures.goes))
  | in-None w ↦
      rw w.result-is (rw w.self-is (none_dropped c.args.place.now c.args.now c.args.self.now c.take_from.new.self
      c.in_ok-take_from.field-0 (ap is_some w.in-None.is) c.in_ok-take_from.ensures.goes c.in_ok-take_from.ensures.text))
]
