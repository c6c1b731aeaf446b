use Rattle.std.proofs.Common.{◌≡◌, suc, ◌+◌, ◌-◌, subst, arith}
use Rattle.ax_link.specs.Standing.{LinkView}
use Rattle.ax_link.specs.Calls.{EmitsTexts, view_of}
use Rattle.ax_link.proofs.Standings.{one_more_out}
use Rattle.ax_link.proofs.machine.Machine.emit_texts.Goals as goal

pub loop-number-preserved : goal.loop-number-preserved
loop-number-preserved g c =
    let kept = c.loop-number.invariant in
    let puts = subst (λ (mid : LinkView). EmitsTexts g.M.Modulus.SIZE c.loop-number.number 1 mid (view_of c.emit_text.new.self)) kept.same c.emit_text.ensures.puts in
    let left : c.args.from + c.args.many - c.loop-number.number ≡ suc (c.args.from + c.args.many - (c.loop-number.number + 1)) = omega arith in
    record {
      same = puts.same;
      count = omega (arith, c.emit_text.ensures.adds.outs, kept.count);
      frames = one_more_out _ (view_of c.args.self.now) _ c.loop-number.self.outs.items _ _ _ _ left kept.frames puts;
    }
