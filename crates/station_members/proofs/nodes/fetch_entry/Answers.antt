use Rattle.std.proofs.Common.{◌<◌, ◌≤◌, refl, length, arith}
use Rattle.station_members.proofs.NodesStand.{asked, asked_none, stand_past, stand_set}
use Rattle.node_core.specs.Bridged as inputs
use Rattle.node_model.specs.States.{NodeState}
use Rattle.std.specs.Prelude.{slice_get}
use Rattle.station_members.specs.Nodes.{first_entry}
use Rattle.station_members.proofs.nodes.fetch_entry.Goals as goal

pub returns-then-at-len-clause-goes : goal.returns-then-at-len-clause-goes
returns-then-at-len-clause-goes c = λ ns stand.
    let h : c.args.at < length c.args.nodes.now.items = omega (arith, c.if-at-len.true, c.len.ensures) in
    stand_set c.args.nodes.now.items ns c.args.at c.index_mut.result.now c.trace_entry.new.self (inputs.after inputs.Fetches_entry) h c.index_mut.ensures.value (c.trace_entry.ensures.goes) stand

pub returns-else-at-len-clause-goes : goal.returns-else-at-len-clause-goes
returns-else-at-len-clause-goes c = λ ns stand.
    let h : length c.args.nodes.now.items ≤ c.args.at = omega (arith, c.if-at-len.false, c.len.ensures) in
    stand_past c.args.nodes.now.items ns c.args.at (inputs.after inputs.Fetches_entry) h stand

pub returns-then-at-len-clause-answer : goal.returns-then-at-len-clause-answer
returns-then-at-len-clause-answer c = λ ns stand.
    let h : c.args.at < length c.args.nodes.now.items = omega (arith, c.if-at-len.true, c.len.ensures) in
    asked c.args.nodes.now.items ns c.args.at c.index_mut.result.now (λ (n : NodeState). slice_get n.station.entries 0) (first_entry) _ (λ n. refl) h c.index_mut.ensures.value (c.trace_entry.ensures.answer) stand

pub returns-else-at-len-clause-answer : goal.returns-else-at-len-clause-answer
returns-else-at-len-clause-answer c = λ ns stand.
    let h : length c.args.nodes.now.items ≤ c.args.at = omega (arith, c.if-at-len.false, c.len.ensures) in
    asked_none c.args.nodes.now.items ns c.args.at (first_entry) h stand
