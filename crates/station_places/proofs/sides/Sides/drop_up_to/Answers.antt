use Rattle.std.proofs.Common.{◌∙◌, ap}
use Rattle.std.specs.Prelude.{not}
use Rattle.station_places.proofs.Dropping.{drops_next, drops_stop}
use Rattle.station_places.proofs.sides.Sides.drop_up_to.Goals as goal

pub returns-then-is_none-clause-goes : goal.returns-then-is_none-clause-goes
returns-then-is_none-clause-goes c =
    drops_stop c.loop.counter c.args.most c.args.place.now c.args.now c.args.self.now c.loop.self c.take_from.new.self c.in_ok-take_from.field-0
    c.loop-test.true (c.is_none.ensures ∙ ap not c.if-is_none.true) c.loop.invariant.goes c.in_ok-take_from.ensures.goes c.in_ok-take_from.ensures.text

pub loop-preserved : goal.loop-preserved
loop-preserved c = record {
  goes = drops_next c.loop.counter c.args.most c.args.place.now c.args.now c.args.self.now c.loop.self c.take_from.new.self c.in_ok-take_from.field-0
      c.loop-test.true (c.is_none.ensures ∙ ap not c.if-is_none.false) c.loop.invariant.goes c.in_ok-take_from.ensures.goes c.in_ok-take_from.ensures.text;
  outs = c.in_ok-take_from.ensures.outs ∙ c.loop.invariant.outs;
}
