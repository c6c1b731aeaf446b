use Rattle.net_report.proofs.Soaking.{failures_are}
use Rattle.net_report.proofs.soak.failures_in.Goals as goal

pub returns : goal.returns
returns c = failures_are c.args.events.now c.loop-numbered.numbered-index c.loop-numbered.count c.loop-numbered-test.false c.loop-numbered.invariant
