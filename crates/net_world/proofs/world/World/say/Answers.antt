use Rattle.std.proofs.Common.{◌∙◌, [], sym}
use Rattle.net_model.specs.Lines.{do_act, events_of_act}
use Rattle.net_world.specs.Running.{course}
use Rattle.node_core.specs.Acts.{Write}
use Rattle.net_world.proofs.Turning.{agents_refused, others_run}
use Rattle.net_world.proofs.world.World.say.Goals as goal

pub returns-then-is_agents : goal.returns-then-is_agents
returns-then-is_agents c =
    agents_refused (course c.args.self.now) (course c.refuse.new.self) c.args.line c.args.number c.args.end [] (do_act c.args.line c.args.number (Write c.args.end c.args.text.now) events_of_act) (λ w t. sym c.if-is_agents.true ∙ c.is_agents.ensures w t)
    c.in_ok-refuse.ensures

pub returns : goal.returns
returns c =
    others_run (course c.args.self.now) (course c.act.new.self) c.args.line c.args.number c.args.end [] (do_act c.args.line c.args.number (Write c.args.end c.args.text.now) events_of_act) c.act.result (λ w t. sym c.if-is_agents.false ∙ c.is_agents.ensures w t) c.act.ensures
