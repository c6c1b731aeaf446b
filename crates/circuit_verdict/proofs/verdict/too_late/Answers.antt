use Rattle.std.proofs.Common.{◌≡◌, arith, take, take_all}
use Rattle.circuit_verdict.proofs.verdict.too_late.Goals as goal

pub returns : goal.returns
returns c =
    let all : take c.loop-numbered.numbered-index c.args.events.now ≡ c.args.events.now = take_all c.loop-numbered.numbered-index c.args.events.now (omega arith) in
    let stands = rw all at c.loop-numbered.invariant.0 in
    let answer = rw c.loop-numbered.invariant.1 at (c.late.ensures c.args.events.now stands) in
    answer
