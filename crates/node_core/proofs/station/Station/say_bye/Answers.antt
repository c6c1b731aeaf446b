use Rattle.std.proofs.Common.{refl, rules}
use Rattle.node_model.specs.Asking as asking
use Rattle.node_model.specs.States.{State}
use Rattle.node_model.specs.Users.{at_session, say}
use Rattle.node_core.proofs.Placing.{session_told}
use Rattle.node_core.proofs.station.Station.say_bye.Goals as goal

pub close_user-requires : goal.close_user-requires
close_user-requires c =
    let n = c.requires.0 in
    let a : State = say c.args.now.0 c.args.nth c.args.text.now.items n in
    (at_session c.args.nth asking.leaves a, session_told asking.leaves (λ x. refl) c.say.new.self c.with_session.new.self c.args.nth (c.with_session.ensures asking.leaves (λ x y r. search rules)) a (c.in_ok-say.ensures n c.requires.1))

pub returns : goal.returns
returns c = λ n t.
    let a : State = say c.args.now.0 c.args.nth c.args.text.now.items n in
    let h = session_told asking.leaves (λ x. refl) c.say.new.self c.with_session.new.self c.args.nth (c.with_session.ensures asking.leaves (λ x y r. search rules)) a (c.in_ok-say.ensures n t) in
    c.in_ok-close_user.ensures (at_session c.args.nth asking.leaves a) h
