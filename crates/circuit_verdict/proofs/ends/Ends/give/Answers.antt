use Rattle.circuit_verdict.specs.declared.pairs.CallPair.{CallPair}
use Rattle.circuit_verdict.specs.declared.pairs.NodePair.{NodePair}
use Rattle.circuit_verdict.specs.Ends.{key_of}
use Rattle.circuit_verdict.proofs.ends.Ends.give.Goals as goal

pub returns-clause-last : goal.returns-clause-last
returns-clause-last c = λ call p.
    let key : CallPair = record { own = call; pair = key_of p } in
    let updated = rw c.of.ensures at (c.in_ok-insert.ensures.updates.0 key) in
    updated

pub returns-clause-given : goal.returns-clause-given
returns-clause-given c = λ node p.
    let key : NodePair = record { node = node; pair = key_of p } in
    let pushed = rw (c.of-2.ensures, c.node.ensures) at (c.in_ok-push.ensures key) in
    pushed
