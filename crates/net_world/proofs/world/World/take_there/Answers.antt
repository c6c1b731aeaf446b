use Rattle.radio_base.specs.declared.modulus.LinkModulus.TheVariants.{Modulo8}
use Rattle.node_core.specs.Acts.{Take}
use Rattle.net_model.specs.Lines.{took_of}
use Rattle.net_world.specs.Running.{course}
use Rattle.net_model.specs.Answers.{taken_events}
use Rattle.net_model.specs.World.{Act, World, answer, put, reach, tell}
use Rattle.net_world.proofs.Answered.{acted, at_number, took_is}
use Rattle.net_world.proofs.world.World.take_there.Goals as goal

pub returns : goal.returns
returns c =
    let old = course c.args.self.now in
    let new = course c.put_in_air.new.self in
    let at = c.place_of-at.result in
    let line = c.args.line in
    let node = c.args.number in
    let end = c.args.end in
    let act = Take end in
    let a = c.in_ok-answer.answer in
    at_number old new node at (λ k (w : World). put line k Modulo8 (tell line (took_of node end (answer k act w)) (reach line k (Act act) w))) c.put_in_air.result c.place_of-at.ensures
    (acted old (course c.act_reaches.new.self) (course c.tell_taken.new.self) new line at act c.put_in_air.result (took_of node end) (taken_events node end a)
    c.in_ok-answer.ensures.goes (λ w t. took_is node end a (answer at act w) (c.in_ok-answer.ensures.answer w t)) c.in_ok-tell_taken.ensures c.put_in_air.ensures)
