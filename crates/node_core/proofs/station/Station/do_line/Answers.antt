use Rattle.std.proofs.Common.{refl, rules, subst}
use Rattle.node_model.specs.Asking as asking
use Rattle.node_core.specs.Going.{HoldsTold}
use Rattle.node_model.specs.States.{State}
use Rattle.node_model.specs.Users.{at_session}
use Rattle.node_core.proofs.Placing.{session_told}
use Rattle.node_core.proofs.station.Station.do_line.Goals as goal

pub do_action-requires : goal.do_action-requires
do_action-requires c =
    let n = c.requires.0 in
    (at_session c.args.nth asking.cut_line n, session_told asking.cut_line (λ x. refl) c.args.self.now c.with_session.new.self c.args.nth (c.with_session.ensures asking.cut_line (λ x y r. search rules)) n c.requires.1)

pub returns : goal.returns
returns c = λ n t.
    let m : State = at_session c.args.nth asking.cut_line n in
    let h = session_told asking.cut_line (λ x. refl) c.args.self.now c.with_session.new.self c.args.nth (c.with_session.ensures asking.cut_line (λ x y r. search rules)) n t in
    subst (λ a. HoldsTold c.do_action.new.self (asking.do_action c.args.now.0 c.args.nth a m)) (c.action-action.ensures n t) (c.in_ok-do_action.ensures m h)
