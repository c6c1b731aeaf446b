use Rattle.std.proofs.Common.{◌∙◌, arith, refl, subst, sym}
use Rattle.node_model.specs.Serving.{greet_link}
use Rattle.node_core.specs.Going.{HoldsTold}
use Rattle.node_model.specs.States.{State}
use Rattle.node_core.proofs.Hearing.{bare_greets, greets_next, greets_none}
use Rattle.node_core.proofs.Holding.{with_sessions}
use Rattle.node_core.proofs.station.Station.greet_each.Goals as goal

pub loop-peer-init : goal.loop-peer-init
loop-peer-init c = λ n t. (n.sessions, t, refl)

pub loop-peer-preserved : goal.loop-peer-preserved
loop-peer-preserved c = λ n t.
    let s = c.loop-peer.self in
    let s2 = c.greet_link.new.self in
    let peer = c.peer-item.result in
    let i = c.loop-peer.invariant n t in
    let prompt = n.settings.prompt in
    let m : State = record n { sessions = i.0 } in
    let h = i.1.0 in
    let now = c.in_ok-greet_link.ensures.sessions ∙ rw (h.users.prompt, h.users.sessions) (bare_greets prompt peer i.0) in (
      greet_link prompt peer i.0,
      (with_sessions s s2 (greet_link prompt peer i.0) now c.in_ok-greet_link.ensures.same m h, i.1.1),
      i.2 ∙ greets_next prompt c.args.peers.now c.loop-peer.peer-index peer i.0 c.loop-peer-test.true c.peer-item.is,
    )

pub returns : goal.returns
returns c = λ n t.
    let i = c.loop-peer.invariant n t in
    let all = greets_none n.settings.prompt c.args.peers.now c.loop-peer.peer-index i.0 (omega arith) in
    subst (λ ss. HoldsTold c.loop-peer.self (record n { sessions = ss })) (sym (i.2 ∙ all)) i.1
