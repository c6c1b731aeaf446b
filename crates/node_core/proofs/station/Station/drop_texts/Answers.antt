use Rattle.std.proofs.Common.{◌∙◌, ◌<◌, arith, sym}
use Rattle.node_model.specs.Links as links
use Rattle.node_model.specs.Serving.{drop_text, payloads}
use Rattle.node_model.proofs.Resting.{drop_falls}
use Rattle.node_model.proofs.Turns.{ends, goes_on}
use Rattle.node_core.proofs.Weighing.{counted}
use Rattle.node_core.proofs.station.Station.drop_texts.Goals as goal

pub loop-init : goal.loop-init
loop-init c =
    let now = c.args.now.0 in
    let falls = drop_falls c.parts.ensures.offers c.parts.ensures.takes c.parts.ensures.less now in
    let dropped = c.in_ok-drop_text.ensures in
    record {
      some = ((drop_text now c.requires.0).after, dropped.goes c.requires.0 c.requires.1);
      stands = λ n h. ((drop_text now n).after, dropped.goes n h, goes_on (drop_text now) payloads falls n (sym (dropped.did n h) ∙ c.if-not-branch.false));
      drained = dropped.drained;
    }

pub loop-preserved : goal.loop-preserved
loop-preserved c =
    let now = c.args.now.0 in
    let falls = drop_falls c.parts.ensures.offers c.parts.ensures.takes c.parts.ensures.less now in
    let dropped = c.in_ok-drop_text-2.ensures in
    let some = c.loop.invariant.some in
    record {
      some = ((drop_text now some.0).after, dropped.goes some.0 some.1);
      stands = λ n h.
          let i = c.loop.invariant.stands n h in
          ((drop_text now i.0).after, dropped.goes i.0 i.1, i.2 ∙ goes_on (drop_text now) payloads falls i.0 (sym (dropped.did i.0 i.1) ∙ c.if-branch.true));
      drained = λ d. dropped.drained (c.loop.invariant.drained d);
    }

pub loop-smaller : goal.loop-smaller
loop-smaller c =
    let now = c.args.now.0 in
    let falls = drop_falls c.parts.ensures.offers c.parts.ensures.takes c.parts.ensures.less now in
    let dropped = c.in_ok-drop_text-2.ensures in
    let some = c.loop.invariant.some in
    let before = counted c.parts.ensures.kept c.loop.self some.0 some.1 in
    let after = counted c.parts.ensures.kept c.drop_text-in-loop.new.self (drop_text now some.0).after (dropped.goes some.0 some.1) in
    let fell : links.payloads (drop_text now some.0).after.links < links.payloads some.0.links = falls some.0 (sym (dropped.did some.0 some.1) ∙ c.if-branch.true) in
    omega (arith, before, after, fell)

pub returns : goal.returns
returns c =
    let now = c.args.now.0 in
    let falls = drop_falls c.parts.ensures.offers c.parts.ensures.takes c.parts.ensures.less now in
    let dropped = c.in_ok-drop_text-2.ensures in
    record {
      did = λ n h. sym c.if-not-branch.false ∙ c.in_ok-drop_text.ensures.did n h;
      goes = λ n h.
          let i = c.loop.invariant.stands n h in
          rw (i.2 ∙ ends (drop_text now) payloads falls i.0 (sym (dropped.did i.0 i.1) ∙ c.if-branch.false)) (dropped.goes i.0 i.1);
      drained = λ d. dropped.drained (c.loop.invariant.drained d);
    }

pub returns-then-not-branch-clause-goes : goal.returns-then-not-branch-clause-goes
returns-then-not-branch-clause-goes c = λ n h.
    let now = c.args.now.0 in
    let falls = drop_falls c.parts.ensures.offers c.parts.ensures.takes c.parts.ensures.less now in
    rw (ends (drop_text now) payloads falls n (sym (c.in_ok-drop_text.ensures.did n h) ∙ c.if-not-branch.true)) (c.in_ok-drop_text.ensures.goes n h)
