use Rattle.std.proofs.Common.{◌∙◌, ◌<◌, sym}
use Rattle.node_core.specs.Inputs.{after_input, turns_settle}
use Rattle.node_model.specs.Serving.{turn}
use Rattle.node_model.proofs.Settled.{turn_falls, turn_told}
use Rattle.node_model.proofs.Turns.{settled_end, settled_on}
use Rattle.node_core.proofs.Weighing.{same_left}
use Rattle.node_model.proofs.Weights.{left}
use Rattle.node_core.proofs.station.Station.settle.Goals as goal

pub loop-init : goal.loop-init
unfolding after_input
loop-init c =
    let now = c.args.now.0 in
    let told = turn_told c.parts.ensures.offers c.parts.ensures.takes c.parts.ensures.less now in
    let turned = c.in_ok-turn.ensures in
    record {
      some = ((turn now c.requires.0).after, turned.goes c.requires.0 c.requires.1, told c.requires.0);
      stands = λ n h. ((turn now n).after, turned.goes n h, settled_on (turn now) (turns_settle now) n (sym (turned.did n h) ∙ c.if-not-branch.false));
    }

pub loop-preserved : goal.loop-preserved
unfolding after_input
loop-preserved c =
    let now = c.args.now.0 in
    let told = turn_told c.parts.ensures.offers c.parts.ensures.takes c.parts.ensures.less now in
    let turned = c.in_ok-turn-2.ensures in
    let some = c.loop.invariant.some in
    record {
      some = ((turn now some.0).after, turned.goes some.0 some.1, told some.0);
      stands = λ n h.
          let i = c.loop.invariant.stands n h in
          ((turn now i.0).after, turned.goes i.0 i.1, i.2 ∙ settled_on (turn now) (turns_settle now) i.0 (sym (turned.did i.0 i.1) ∙ c.if-branch.true));
    }

pub loop-smaller : goal.loop-smaller
loop-smaller c =
    let now = c.args.now.0 in
    let falls = turn_falls c.parts.ensures.offers c.parts.ensures.takes c.parts.ensures.less now in
    let told = turn_told c.parts.ensures.offers c.parts.ensures.takes c.parts.ensures.less now in
    let turned = c.in_ok-turn-2.ensures in
    let some = c.loop.invariant.some in
    let before = same_left c.parts.ensures.kept c.loop.self some.0 some.1 some.2 in
    let after = same_left c.parts.ensures.kept c.turn-in-loop.new.self (turn now some.0).after (turned.goes some.0 some.1) (told some.0) in
    let fell : left (turn now some.0).after < left some.0 = falls some.0 (sym (turned.did some.0 some.1) ∙ c.if-branch.true) in
    rw (before, after) fell

pub returns : goal.returns
unfolding after_input
returns c =
    let now = c.args.now.0 in
    let turned = c.in_ok-turn-2.ensures in
    record {
      goes = λ n h.
          let i = c.loop.invariant.stands n h in
          rw (i.2 ∙ settled_end (turn now) (turns_settle now) i.0 (sym (turned.did i.0 i.1) ∙ c.if-branch.false)) (turned.goes i.0 i.1);
      drained = turned.drained;
    }

pub returns-then-not-branch-clause-goes : goal.returns-then-not-branch-clause-goes
unfolding after_input
returns-then-not-branch-clause-goes c = λ n h.
    let now = c.args.now.0 in
    rw (settled_end (turn now) (turns_settle now) n (sym (c.in_ok-turn.ensures.did n h) ∙ c.if-not-branch.true)) (c.in_ok-turn.ensures.goes n h)
