use Rattle.std.proofs.Common.{refl, subst, rules}
use Rattle.node_model.specs.Bridging as bridging
use Rattle.node_core.specs.Going.{HoldsTold}
use Rattle.node_model.specs.States.{State}
use Rattle.node_model.specs.Users as users
use Rattle.node_core.proofs.Placing.{logged, session_told}
use Rattle.node_core.proofs.station.Station.write_rest.Goals as goal

pub write_to-requires : goal.write_to-requires
write_to-requires c =
    let n = c.requires.0 in
    (users.at_session c.args.nth bridging.drop_rest n, session_told bridging.drop_rest (λ x. refl) c.args.self.now c.with_session.new.self c.args.nth (c.with_session.ensures bridging.drop_rest (λ x y r. search rules)) n c.requires.1)

pub returns : goal.returns
returns c = λ n t.
    let nth = c.args.nth in
    let text = bridging.rest_of (users.session_at nth n) in
    let h = session_told bridging.drop_rest (λ x. refl) c.args.self.now c.with_session.new.self nth (c.with_session.ensures bridging.drop_rest (λ x y r. search rules)) n t in
    let step = bridging.log_wrote (users.wrote_by (users.write_answer c.args.id text n)) text in
    let m : State = users.at_session nth step n in
    let h2 = logged bridging.drop_rest step (λ x. refl) c.with_session.new.self n nth h.0 in
    subst (λ x. HoldsTold c.write_to.new.self (users.write_to c.args.now.0 c.args.id x m)) (c.rest_of-text.ensures n t) (rw c.as_slice.ensures.value at (c.in_ok-write_to.ensures m (h2, h.1)))
