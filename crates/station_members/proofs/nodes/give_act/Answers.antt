use Rattle.std.proofs.Common.{◌<◌, ◌≤◌, refl, length, arith}
use Rattle.station_members.proofs.NodesStand.{asked, asked_none, stand_past, stand_set}
use Rattle.node_core.specs.Bridged as inputs
use Rattle.node_core.specs.Acts.{act_of}
use Rattle.node_core.specs.Inputs.{act_answer}
use Rattle.station_members.specs.Nodes.{answer_of}
use Rattle.station_members.proofs.nodes.give_act.Goals as goal

pub returns-then-at-len-clause-goes : goal.returns-then-at-len-clause-goes
returns-then-at-len-clause-goes c = λ is ns stand.
    let h : c.args.at < length c.args.nodes.now.items = omega (arith, c.if-at-len.true, c.len.ensures) in
    stand_set c.args.nodes.now.items ns c.args.at c.index_mut.result.now c.act.new.self (inputs.after (inputs.Acts c.args.now.0 (act_of c.args.act.now))) h c.index_mut.ensures.value (c.act.ensures.goes is) stand

pub returns-else-at-len-clause-goes : goal.returns-else-at-len-clause-goes
returns-else-at-len-clause-goes c = λ is ns stand.
    let h : length c.args.nodes.now.items ≤ c.args.at = omega (arith, c.if-at-len.false, c.len.ensures) in
    stand_past c.args.nodes.now.items ns c.args.at (inputs.after (inputs.Acts c.args.now.0 (act_of c.args.act.now))) h stand

pub returns-then-at-len-clause-answer : goal.returns-then-at-len-clause-answer
returns-then-at-len-clause-answer c = λ is ns stand.
    let h : c.args.at < length c.args.nodes.now.items = omega (arith, c.if-at-len.true, c.len.ensures) in
    asked c.args.nodes.now.items ns c.args.at c.index_mut.result.now (act_answer c.args.now.0 (act_of c.args.act.now)) (answer_of c.args.now.0 (act_of c.args.act.now)) _ (λ n. refl) h c.index_mut.ensures.value (c.act.ensures.answer is) stand

pub returns-else-at-len-clause-answer : goal.returns-else-at-len-clause-answer
returns-else-at-len-clause-answer c = λ is ns stand.
    let h : length c.args.nodes.now.items ≤ c.args.at = omega (arith, c.if-at-len.false, c.len.ensures) in
    asked_none c.args.nodes.now.items ns c.args.at (answer_of c.args.now.0 (act_of c.args.act.now)) h stand
