use Rattle.std.proofs.Common.{◌∙◌, refl, ap, subst, rules}
use Rattle.node_model.specs.Bridging as bridging
use Rattle.node_core.specs.Going.{HoldsTold}
use Rattle.node_model.specs.States.{State}
use Rattle.node_model.specs.Users.{at_session, say}
use Rattle.node_core.proofs.Placing.{session_told}
use Rattle.node_core.proofs.station.Station.give_reply.Goals as goal

pub say-requires : goal.say-requires
say-requires c =
    let n = c.requires.0 in
    (at_session c.args.nth bridging.drop_reply n, session_told bridging.drop_reply (λ x. refl) c.args.self.now c.with_session.new.self c.args.nth (c.with_session.ensures bridging.drop_reply (λ x y r. search rules)) n c.requires.1)

pub returns-in_ok-say-in-Some : goal.returns-in_ok-say-in-Some
returns-in_ok-say-in-Some c = λ n t.
    let m : State = at_session c.args.nth bridging.drop_reply n in
    let h = session_told bridging.drop_reply (λ x. refl) c.args.self.now c.with_session.new.self c.args.nth (c.with_session.ensures bridging.drop_reply (λ x y r. search rules)) n t in
    let text = c.reply_text-text.ensures ∙ ap (λ p. bridging.reply_text p c.in-Some.reply) (c.prompt.ensures n t.0) in
    let said = subst (λ x. HoldsTold c.say.new.self (say c.args.now.0 c.args.nth x m)) text (c.in_ok-say-in-Some.ensures m h) in
    rw (← c.in-Some.ensures n t) (record { did_is = refl; stands = said })
