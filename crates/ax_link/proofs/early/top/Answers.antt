use Rattle.std.proofs.Common.{arith}
use Rattle.ax_link.proofs.EarlyPlaces.{top_at, top_before}
use Rattle.ax_link.proofs.early.top.Goals.{then-is_filled, else-is_filled}
use Rattle.ax_link.proofs.early.top.Goals as goal

pub loop-place-preserved : goal.loop-place-preserved
loop-place-preserved c =
    let kept = c.loop-place.invariant in
    elim c.if-is_filled.branch [
      | then-is_filled w ↦ record {
        value = top_at c.args.early.now.items c.loop-place.place c.if-is_filled.top c.is_filled.result c.is_filled.ensures w.if-is_filled.true w.top-is;
        within = omega (arith, w.top-is);
      }
      | else-is_filled w ↦ record {
        value = top_before c.args.early.now.items c.loop-place.place c.if-is_filled.top c.loop-place.top c.is_filled.result c.is_filled.ensures w.if-is_filled.false kept.value w.top-is;
        within = omega (arith, w.top-is, kept.within);
      }
    ]
