use Rattle.std.proofs.Common.{◌∙◌, ap, refl, subst, rules}
use Rattle.circuit_table.specs.Sets as sets
use Rattle.node_prompt.specs.Replies as texts
use Rattle.node_model.specs.Asking as asking
use Rattle.node_model.specs.Bridging as bridging
use Rattle.node_model.specs.Links as circuits
use Rattle.node_model.specs.Pumping.{pump}
use Rattle.node_core.specs.Going.{HoldsTold}
use Rattle.node_model.specs.States.{State, at_set}
use Rattle.node_model.specs.Users.{at_session, say}
use Rattle.node_core.proofs.Asked.{answered, prompt_stays, refused_told, unspent}
use Rattle.node_core.proofs.Placing.{session_goes}
use Rattle.node_core.proofs.Refusing.{not_spent}
use Rattle.node_core.proofs.Using.{drained, set_acts}
use Rattle.node_core.proofs.station.Station.try_circuit.Goals as goal

pub connect-requires : goal.connect-requires
connect-requires c = drained c.args.self.now c.requires

pub say-requires : goal.say-requires
say-requires c =
    let n = c.requires.0 in
    let act = sets.Connect c.args.dest.now c.args.now.0 in
    let step = asking.tries c.in-Ok.id c.args.dest.now in
    let s1 = record c.args.self.now { set = c.connect.new.self } in
    let m : State = at_set (circuits.acts act) n in
    let b : State = at_session c.args.nth step m in
    let h1 = set_acts act c.args.self.now c.connect.new.self c.in-Ok.ensures.goes n c.requires.1 in
    let h2 = session_goes step (λ x. refl) s1 c.with_session.new.self c.args.nth (c.with_session.ensures step (λ x y r. search rules)).sessions (c.with_session.ensures step (λ x y r. search rules)).same m h1 in
    (pump c.args.now.0 b, (c.in_ok-pump-in-Ok.ensures.goes b h2, c.in_ok-pump-in-Ok.ensures.told b))

pub returns-in_ok-say-in-Ok : goal.returns-in_ok-say-in-Ok
returns-in_ok-say-in-Ok c = λ n t.
    let s = c.args.self.now in
    let dest = c.args.dest.now in
    let now = c.args.now.0 in
    let nth = c.args.nth in
    let act = sets.Connect dest now in
    let step = asking.tries c.in-Ok.id dest in
    let s1 = record s { set = c.connect.new.self } in
    let m : State = at_set (circuits.acts act) n in
    let b : State = at_session nth step m in
    let h1 = set_acts act s c.connect.new.self c.in-Ok.ensures.goes n t in
    let h2 = session_goes step (λ x. refl) s1 c.with_session.new.self nth (c.with_session.ensures step (λ x y r. search rules)).sessions (c.with_session.ensures step (λ x y r. search rules)).same m h1 in
    let p : State = pump now b in
    let h3 = c.in_ok-pump-in-Ok.ensures.goes b h2 in
    let told = c.in_ok-say-in-Ok.ensures p (h3, c.in_ok-pump-in-Ok.ensures.told b) in
    let prompt = c.prompt.ensures p h3 ∙ prompt_stays now b in
    let text = ap (λ x. x.items) c.trying-text.ensures.text ∙ ap (λ q. (texts.trying q dest).items) prompt in
    let spent = not_spent c.connect.new.self.spent (λ x. absurd (cc (c.in-Ok.ensures.memory.1 x))) in
    let answer = answered s dest n t _ (c.in-Ok.ensures.answer spent) in
    subst (λ r. HoldsTold c.say.new.self (asking.try_by now nth dest r n)) answer (subst (λ x. HoldsTold c.say.new.self (say now nth x p)) text told)

pub returns-in_ok-say-in-Err : goal.returns-in_ok-say-in-Err
returns-in_ok-say-in-Err c = λ n t.
    let s = c.args.self.now in
    let dest = c.args.dest.now in
    let now = c.args.now.0 in
    let nth = c.args.nth in
    let why = c.in-Err.why in
    let spent = unspent why c.connect.new.self.spent c.in_ok-trouble-in-Err.ensures.unspent c.in-Err.ensures.memory.1 in
    let h = refused_told s c.connect.new.self n t (c.in-Err.ensures.err spent) in
    let prompt = c.prompt-in-Err.ensures n h.0 in
    let text =
    ap (λ x. x.items) c.refused-text.ensures.text
    ∙ (ap (λ q. (texts.refused q dest c.in_ok-trouble-in-Err.trouble).items) prompt ∙ ap (λ w. (texts.refused (bridging.prompt_of n) dest w).items) c.in_ok-trouble-in-Err.ensures.trouble) in
    let told = subst (λ x. HoldsTold c.say-in-Err.new.self (say now nth x n)) text (c.in_ok-say-in-Err.ensures n h) in
    let answer = answered s dest n t _ (c.in-Err.ensures.answer spent) in
    subst (λ r. HoldsTold c.say-in-Err.new.self (asking.try_by now nth dest r n)) answer told
