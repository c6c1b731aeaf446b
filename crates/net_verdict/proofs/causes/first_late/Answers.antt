use Rattle.std.proofs.Common.{arith, subst}
use Rattle.net_verdict.specs.Causes.{Judges}
use Rattle.net_model.specs.Circuits.{event_at}
use Rattle.net_model.specs.Events.{event_of}
use Rattle.net_verdict.proofs.Blames.{all_in_time, comes_late, taken_on}
use Rattle.net_verdict.proofs.causes.first_late.Goals as goal

pub loop-at-preserved : goal.loop-at-preserved
loop-at-preserved c = λ a nodes e start.
    let es = c.args.events.now in
    let at = c.loop-at.at in
    let x = c.index-events-at.result in
    let judged = subst (Judges c.loop-at.verdict c.judge.new.verdict (event_at nodes x.line (event_of x.event))) c.in_default.is (c.in_ok-cause.ensures nodes e) in
    taken_on es at x nodes a c.loop-at.verdict c.judge.new.verdict (omega arith) c.index-events-at.is judged
    (c.loop-at.invariant a nodes e start)

pub returns-in-Some : goal.returns-in-Some
returns-in-Some c = λ a nodes e start.
    let es = c.args.events.now in
    let at = c.loop-at.at in
    let x = c.index-events-at.result in
    let judged = subst (Judges c.loop-at.verdict c.judge.new.verdict (event_at nodes x.line (event_of x.event))) c.in-Some.is (c.in_ok-cause.ensures nodes e) in
    comes_late es at x nodes a c.loop-at.verdict c.judge.new.verdict c.in-Some.cause (omega arith) c.index-events-at.is judged
    (c.loop-at.invariant a nodes e start)

pub returns : goal.returns
returns c = λ a nodes e start.
    all_in_time c.args.events.now c.loop-at.at nodes a c.loop-at.verdict (omega arith) (c.loop-at.invariant a nodes e start)
