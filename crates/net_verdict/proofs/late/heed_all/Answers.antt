use Rattle.std.proofs.Common.{arith}
use Rattle.net_verdict.proofs.Judged.{heeds_all, heeds_next}
use Rattle.net_verdict.proofs.late.heed_all.Goals as goal

pub loop-numbered-preserved : goal.loop-numbered-preserved
loop-numbered-preserved c = λ nodes last e later.
    c.loop-numbered.invariant nodes last e
    (heeds_next c.args.events.now c.loop-numbered.numbered-index c.numbered-item.result nodes c.loop-numbered.verdict c.heed.new.verdict last (omega arith) c.numbered-item.is
    (c.in_ok-heed.ensures nodes e) later)

pub returns : goal.returns
returns c = λ nodes e. c.loop-numbered.invariant nodes c.loop-numbered.verdict e (heeds_all c.args.events.now c.loop-numbered.numbered-index nodes c.loop-numbered.verdict (omega arith))
