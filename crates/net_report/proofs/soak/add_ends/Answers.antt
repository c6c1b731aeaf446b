use Rattle.std.proofs.Common.{arith, add-one}
use Rattle.net_report.proofs.Soaking.{next_end}
use Rattle.net_report.proofs.soak.add_ends.Goals as goal

pub loop-place-preserved : goal.loop-place-preserved
loop-place-preserved c = λ n stands.
    next_end c.loop-place.place _ c.args.made.now c.index-made-place.result c.facts.result n.station.set.set.ends c.loop-place.ends.items c.add_end.new.ends.items _ (add-one c.loop-place.place)
    (omega arith) c.index-made-place.is (c.loop-place.invariant n stands) (c.facts.ensures n stands) c.in_ok-add_end.ensures
