use Rattle.std.proofs.Common.{◌<◌, ◌≤◌, refl, length, arith}
use Rattle.station_members.proofs.NodesStand.{on_err, on_ok, stand_same, asked, asked_none, stand_set}
use Rattle.node_core.specs.Bridged as inputs
use Rattle.node_model.specs.States.{NodeState}
use Rattle.node_core.specs.Qualities.{quality_answer}
use Rattle.station_members.specs.Nodes.{quality_answer_of}
use Rattle.station_members.proofs.nodes.give_quality.Goals as goal

pub returns-then-at-len-clause-goes : goal.returns-then-at-len-clause-goes
returns-then-at-len-clause-goes c =
    let h : c.args.at < length c.args.nodes.now.items = omega (arith, c.if-at-len.true, c.len.ensures) in
    on_ok c.set_quality.result (λ goes ns stand. stand_set c.args.nodes.now.items ns c.args.at c.index_mut.result.now c.set_quality.new.self (inputs.after (inputs.Qualities c.args.neighbour.now c.args.quality)) h c.index_mut.ensures.value goes stand) c.set_quality.ensures.goes

pub returns-then-at-len-clause-answer : goal.returns-then-at-len-clause-answer
returns-then-at-len-clause-answer c = λ is ns stand.
    let h : c.args.at < length c.args.nodes.now.items = omega (arith, c.if-at-len.true, c.len.ensures) in
    asked c.args.nodes.now.items ns c.args.at c.index_mut.result.now (λ (n : NodeState). quality_answer c.args.neighbour.now n.station) (quality_answer_of c.args.neighbour.now) _ (λ n. refl) h c.index_mut.ensures.value (c.set_quality.ensures.answer is) stand

pub returns-else-at-len-clause-answer : goal.returns-else-at-len-clause-answer
returns-else-at-len-clause-answer c = λ is ns stand.
    let h : length c.args.nodes.now.items ≤ c.args.at = omega (arith, c.if-at-len.false, c.len.ensures) in
    asked_none c.args.nodes.now.items ns c.args.at (quality_answer_of c.args.neighbour.now) h stand

pub returns-then-at-len-clause-err : goal.returns-then-at-len-clause-err
returns-then-at-len-clause-err c =
    let h : c.args.at < length c.args.nodes.now.items = omega (arith, c.if-at-len.true, c.len.ensures) in
    on_err c.set_quality.result (λ same is ns stand. stand_same c.args.nodes.now.items ns c.args.at c.index_mut.result.now c.set_quality.new.self h c.index_mut.ensures.value (same is) stand) c.set_quality.ensures.err
