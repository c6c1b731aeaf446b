use Rattle.std.proofs.Common.{◌≡◌, ◌+◌, ◌-◌, suc, length, arith, ◌∙◌}
use Rattle.ax_link.specs.Calls.{view_of}
use Rattle.ax_link.proofs.EarlyPlaces.{goes_no_further, goes_on}
use Rattle.ax_link.proofs.machine.Machine.move_on.Goals as goal

pub returns-in-None-clause-does : goal.returns-in-None-clause-does
returns-in-None-clause-does g c = λ part stands. goes_no_further _ _ (view_of c.loop-done.self) _ c.in-None.ensures.exact (c.loop-done.invariant.goes part stands)

pub loop-done-preserved : goal.loop-done-preserved
loop-done-preserved g c =
    let kept = c.loop-done.invariant in
    let left : length c.args.self.now.early.items - c.loop-done.done ≡ suc (length c.args.self.now.early.items - (c.loop-done.done + 1)) = omega (arith, c.loop-done-test.true, c.len-done-end.ensures.len) in
    record {
      goes = λ part stands. goes_on _ _ _ (view_of c.loop-done.self) _ _ _ left c.in-Some.ensures.exact (rw c.as_slice.ensures.value at c.take_next.ensures.does) (kept.goes part stands);
      adds = record {
        window = c.take_next.ensures.adds.window ∙ kept.adds.window;
        outs = omega (arith, c.take_next.ensures.adds.outs, kept.adds.outs);
        notice = c.take_next.ensures.adds.notice ∙ kept.adds.notice;
      };
    }
