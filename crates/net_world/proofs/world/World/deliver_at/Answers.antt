use Rattle.std.proofs.Common.{◌∙◌, ap, List}
use Rattle.std.specs.Prelude.{slice_get}
use Rattle.net_model.specs.declared.air.Aired.{Aired}
use Rattle.net_world.specs.Running.{course}
use Rattle.net_world.proofs.Handing.{delivered, found, not_delivered, not_found}
use Rattle.net_world.proofs.world.World.deliver_at.Goals as goal

pub returns-in_ok-tell-in-Some : goal.returns-in_ok-tell-in-Some
returns-in_ok-tell-in-Some c =
    let h = c.in-Some.ensures.lookup in
    let f = c.in-Some.frame.now in
    let is = found c.frames.result.now c.args.self.now.air c.args.at f c.frames.ensures.value h.3.0 h.1 in
    let still = ap (λ (fs : List Aired). slice_get fs c.args.at) c.in_ok-tell-in-Some.ensures.air ∙ is in
    delivered (course c.args.self.now) (course c.tell.new.self) (course c.hear_frame.new.self) c.args.line c.args.at c.args.node f c.hear_frame.result
    is c.in_ok-tell-in-Some.ensures.goes (c.hear_frame.ensures f still)

pub returns-in-None : goal.returns-in-None
returns-in-None c =
    not_delivered (course c.args.self.now) c.args.line c.args.at c.args.node
    (not_found c.frames.result.now c.args.self.now.air c.args.at c.frames.ensures.value c.in-None.ensures.lookup.0)
