use Rattle.std.proofs.Common.{◌<◌, ◌≤◌, ◌∙◌, refl, length, arith}
use Rattle.station_members.proofs.NodesStand.{asked, asked_none, stand_past, stand_set}
use Rattle.node_model.specs.States.{NodeState, frames}
use Rattle.station_members.specs.Nodes.{all_fetched, frames_of}
use Rattle.station_members.proofs.nodes.fetch_frames.Goals as goal

pub returns-in_ok-fetched-clause-goes : goal.returns-in_ok-fetched-clause-goes
returns-in_ok-fetched-clause-goes c = λ ns stand.
    let h : c.args.at < length c.args.nodes.now.items = omega (arith, c.if-at-len.true, c.len.ensures) in
    stand_set c.args.nodes.now.items ns c.args.at c.index_mut.result.now c.fetch_all.new.node (all_fetched) h c.index_mut.ensures.value (c.in_ok-fetched.ensures.goes) stand

pub returns-else-at-len-clause-goes : goal.returns-else-at-len-clause-goes
returns-else-at-len-clause-goes c = λ ns stand.
    let h : length c.args.nodes.now.items ≤ c.args.at = omega (arith, c.if-at-len.false, c.len.ensures) in
    stand_past c.args.nodes.now.items ns c.args.at (all_fetched) h stand

pub returns-in_ok-fetched-clause-frames : goal.returns-in_ok-fetched-clause-frames
returns-in_ok-fetched-clause-frames c = λ ns stand.
    let h : c.args.at < length c.args.nodes.now.items = omega (arith, c.if-at-len.true, c.len.ensures) in
    asked c.args.nodes.now.items ns c.args.at c.index_mut.result.now (λ (n : NodeState). frames n.station) (frames_of) _ (λ n. refl) h c.index_mut.ensures.value (c.in_ok-fetched.ensures.frames) stand

pub returns-else-at-len-clause-frames : goal.returns-else-at-len-clause-frames
returns-else-at-len-clause-frames c = λ ns stand.
    let h : length c.args.nodes.now.items ≤ c.args.at = omega (arith, c.if-at-len.false, c.len.ensures) in
    c.new.ensures.items ∙ asked_none c.args.nodes.now.items ns c.args.at (frames_of) h stand
