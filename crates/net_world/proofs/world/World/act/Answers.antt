use Rattle.radio_base.specs.declared.modulus.LinkModulus.TheVariants.{Modulo8}
use Rattle.node_core.specs.Acts.{act_of}
use Rattle.net_model.specs.Lines.{events_of_act}
use Rattle.net_model.specs.Answers.{answer_events}
use Rattle.net_world.specs.Running.{course}
use Rattle.net_model.specs.World.{Act, World, answer, put, reach, tell}
use Rattle.net_world.proofs.Answered.{acted, at_number, told_is}
use Rattle.net_world.proofs.world.World.act.Goals as goal

pub returns : goal.returns
returns c =
    let old = course c.args.self.now in
    let new = course c.put_in_air.new.self in
    let at = c.place_of-at.result in
    let line = c.args.line in
    let act = act_of c.args.act.now in
    let a = c.in_ok-answer.answer in
    at_number old new c.args.number at (λ k (w : World). put line k Modulo8 (tell line (events_of_act (answer k act w)) (reach line k (Act act) w))) c.put_in_air.result c.place_of-at.ensures
    (acted old (course c.act_reaches.new.self) (course c.tell_answer.new.self) new line at act c.put_in_air.result events_of_act (answer_events a)
    c.in_ok-answer.ensures.goes (λ w t. told_is a (answer at act w) (c.in_ok-answer.ensures.answer w t)) c.in_ok-tell_answer.ensures c.put_in_air.ensures)
