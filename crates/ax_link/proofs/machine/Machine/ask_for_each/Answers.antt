use Rattle.std.proofs.Common.{◌∙◌, arith}
use Rattle.ax_link.specs.Calls.{view_of}
use Rattle.ax_link.proofs.EarlyPlaces.{one_more_asked}
use Rattle.ax_link.proofs.machine.Machine.ask_for_each.Goals as goal

pub loop-number-preserved : goal.loop-number-preserved
loop-number-preserved g c =
    let kept = c.loop-number.invariant in
    record {
      does = one_more_asked _ c.args.from c.loop-number.number (view_of c.args.self.now) (view_of c.loop-number.self) _ c.loop-number.auto.number kept.does c.ask_for.ensures.does;
      adds = record {
        window = c.ask_for.ensures.adds.window ∙ kept.adds.window;
        outs = omega (arith, c.ask_for.ensures.adds.outs, kept.adds.outs, c.loop-number.auto.number);
        notice = c.ask_for.ensures.adds.notice ∙ kept.adds.notice;
      };
      got = c.ask_for.ensures.got ∙ kept.got;
    }
