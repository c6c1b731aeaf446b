use Rattle.std.proofs.Common.{◌∙◌, [], sym}
use Rattle.net_model.specs.Lines.{do_act, took_of}
use Rattle.net_world.specs.Running.{course}
use Rattle.node_core.specs.Acts.{Take}
use Rattle.net_world.proofs.Turning.{agents_refused, others_run}
use Rattle.net_world.proofs.world.World.take.Goals as goal

pub returns-then-is_agents : goal.returns-then-is_agents
returns-then-is_agents c =
    agents_refused (course c.args.self.now) (course c.refuse.new.self) c.args.line c.args.number c.args.end [] (do_act c.args.line c.args.number (Take c.args.end) (took_of c.args.number c.args.end)) (λ w t. sym c.if-is_agents.true ∙ c.is_agents.ensures w t)
    c.in_ok-refuse.ensures

pub returns : goal.returns
returns c =
    others_run (course c.args.self.now) (course c.take_there.new.self) c.args.line c.args.number c.args.end [] (do_act c.args.line c.args.number (Take c.args.end) (took_of c.args.number c.args.end)) c.take_there.result (λ w t. sym c.if-is_agents.false ∙ c.is_agents.ensures w t) c.take_there.ensures
