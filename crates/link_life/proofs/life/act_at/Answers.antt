use Rattle.std.proofs.Common.{refl, subst, sym}
use Rattle.link_life.specs.declared.act.Side.{Side}
use Rattle.link_life.specs.Ends.{Ends}
use Rattle.link_life.specs.Lives.{Turn, act_at, act_near}
use Rattle.link_life.specs.Standing.{LifeComesTo}
use Rattle.link_life.proofs.Living.{lifts_a, lifts_b}
use Rattle.link_life.proofs.life.act_at.Goals as goal

pub returns-in_ok-answer-in-A-clause-does : goal.returns-in_ok-answer-in-A-clause-does
returns-in_ok-answer-in-A-clause-does g c = λ w s.
    let size = g.M.Modulus.SIZE in
    let k = c.args.life.now in
    subst (λ (d : Side). LifeComesTo size c.in_ok-answer-in-A.answer (record k { a = c.act_near.new.near; b = c.act_near.new.far }) c.args.text.now c.act_near.new.text w (act_at d c.args.act.now w)) (sym c.in-A.is)
    (lifts_a size c.in_ok-answer-in-A.answer k (record k { a = c.act_near.new.near; b = c.act_near.new.far }) c.args.side c.args.text.now c.act_near.new.text w (λ (t : Turn) (p : Ends). act_near t c.args.act.now p)
    c.in-A.is (record { srej = refl; delay = refl; moment = refl }) s c.in_ok-answer-in-A.ensures.does)

pub returns-in_ok-answer-in-B-clause-does : goal.returns-in_ok-answer-in-B-clause-does
returns-in_ok-answer-in-B-clause-does g c = λ w s.
    let size = g.M.Modulus.SIZE in
    let k = c.args.life.now in
    subst (λ (d : Side). LifeComesTo size c.in_ok-answer-in-B.answer (record k { a = c.act_near-in-B.new.far; b = c.act_near-in-B.new.near }) c.args.text.now c.act_near-in-B.new.text w (act_at d c.args.act.now w)) (sym c.in-B.is)
    (lifts_b size c.in_ok-answer-in-B.answer k (record k { a = c.act_near-in-B.new.far; b = c.act_near-in-B.new.near }) c.args.side c.args.text.now c.act_near-in-B.new.text w (λ (t : Turn) (p : Ends). act_near t c.args.act.now p)
    c.in-B.is (record { srej = refl; delay = refl; moment = refl }) s c.in_ok-answer-in-B.ensures.does)
