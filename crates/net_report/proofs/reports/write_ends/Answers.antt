use Rattle.std.proofs.Common.{arith, add-one}
use Rattle.net_report.proofs.Texts.{next_end}
use Rattle.net_report.proofs.reports.write_ends.Goals as goal

pub loop-place-preserved : goal.loop-place-preserved
loop-place-preserved c = λ n stands.
    next_end c.args.number c.loop-place.place _ c.args.ends.now c.index-ends-place.result c.facts.result n.station.set.set.ends c.loop-place.text c.write_last.new.text _ (add-one c.loop-place.place)
    (omega arith) c.index-ends-place.is (c.loop-place.invariant n stands) (c.facts.ensures n stands) c.in_ok-write_last.ensures
