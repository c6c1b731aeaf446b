use Rattle.std.proofs.Common.{◌≡◌, ◌∙◌, true, subst, sym}
use Rattle.node_model.specs.Bridging as bridging
use Rattle.node_model.specs.Serving as serving
use Rattle.node_core.specs.Going.{HasTurned}
use Rattle.node_model.specs.States.{State}
use Rattle.node_model.specs.Turns.{or_else}
use Rattle.node_core.proofs.Outcomes.{if_ok}
use Rattle.node_core.proofs.Serving.{or_first, or_next}
use Rattle.node_core.proofs.station.Station.serve_once.Goals as goal

pub returns : goal.returns
returns c = if_ok c.close_circuit.result c.close_circuit.ensures (λ did turns n t.
    let now = c.args.now.0 in
    let nth = c.args.nth in
    let replies = bridging.give_reply now nth in
    let gives = bridging.give_message now nth in
    let takes = serving.take_up now nth in
    let closes = bridging.close_circuit now nth in
    let a = c.in_ok-give_reply.ensures n t in
    let m1 : State = (replies n).after in
    let b = c.in_ok-give_message.ensures m1 a.stands in
    let m2 : State = (gives m1).after in
    let d = c.in_ok-take_up.ensures m2 b.stands in
    let m3 : State = (takes m2).after in
    let is =
    or_next replies (or_else gives (or_else takes closes)) n (sym a.did_is ∙ c.if-branch.false)
    ∙ (or_next gives (or_else takes closes) m1 (sym b.did_is ∙ c.if-branch-2.false) ∙ or_next takes closes m2 (sym d.did_is ∙ c.if-branch-3.false)) in
    subst (λ u. HasTurned u c.close_circuit.new.self did) (sym is) (turns m3 d.stands))

pub returns-then-branch-3 : goal.returns-then-branch-3
returns-then-branch-3 c = λ n t.
    let now = c.args.now.0 in
    let nth = c.args.nth in
    let replies = bridging.give_reply now nth in
    let gives = bridging.give_message now nth in
    let takes = serving.take_up now nth in
    let closes = bridging.close_circuit now nth in
    let a = c.in_ok-give_reply.ensures n t in
    let m1 : State = (replies n).after in
    let b = c.in_ok-give_message.ensures m1 a.stands in
    let m2 : State = (gives m1).after in
    let d = c.in_ok-take_up.ensures m2 b.stands in
    let took : (takes m2).did ≡ true = sym d.did_is ∙ c.if-branch-3.true in
    let is =
    or_next replies (or_else gives (or_else takes closes)) n (sym a.did_is ∙ c.if-branch.false)
    ∙ (or_next gives (or_else takes closes) m1 (sym b.did_is ∙ c.if-branch-2.false) ∙ or_first takes closes m2 took) in
    subst (λ u. HasTurned u c.take_up.new.self true) (sym is) (record { did_is = sym took; stands = d.stands })
