use Rattle.std.proofs.Common.{◌∙◌, refl, sym, rules}
use Rattle.node_model.specs.Bridging as bridging
use Rattle.node_model.specs.States.{State}
use Rattle.node_core.proofs.Placing.{session_told}
use Rattle.node_core.proofs.station.Station.drop_text_of.Goals as goal

pub returns : goal.returns
returns c = λ n t.
    let x = c.in_ok-next_text.ensures n t in
    let m : State = (bridging.next_text c.args.now.0 c.args.nth n).after in
    let told = session_told bridging.drop_rest (λ s. refl) c.next_text.new.self c.with_session.new.self c.args.nth (c.with_session.ensures bridging.drop_rest (λ x y r. search rules)) m x.stands in
    rw (sym x.did_is ∙ c.if-not-branch.false) (record { did_is = refl; stands = told })
