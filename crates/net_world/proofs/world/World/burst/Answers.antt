use Rattle.std.proofs.Common.{◌∙◌, ◌∷◌, [], sym, subst}
use Rattle.net_model.specs.Lines.{burst}
use Rattle.net_world.specs.Running.{Stands, course}
use Rattle.net_model.specs.declared.refusals.LineRefusal.TheVariants.{Served}
use Rattle.net_model.specs.Events.{Refused, Wrote}
use Rattle.net_world.proofs.Telling.{tell_both}
use Rattle.net_world.proofs.Turning.{agents_refused, others_run}
use Rattle.net_world.proofs.world.World.burst.Goals as goal

pub returns-then-is_agents : goal.returns-then-is_agents
returns-then-is_agents c =
    agents_refused (course c.args.self.now) (course c.refuse.new.self) c.args.line c.args.number c.args.end (Wrote c.args.number c.args.end 0 ∷ []) (burst c.args.line c.args.number c.args.end c.args.count) (λ w t. sym c.if-is_agents.true ∙ c.is_agents.ensures w t)
    (λ w t. subst (λ v. Stands (course c.refuse.new.self) v) (tell_both c.args.line (Wrote c.args.number c.args.end 0 ∷ []) (Refused Served ∷ []) w) (c.in_ok-refuse.ensures _ (c.in_ok-tell.ensures.goes w t)))

pub returns : goal.returns
returns c =
    others_run (course c.args.self.now) (course c.burst_there.new.self) c.args.line c.args.number c.args.end (Wrote c.args.number c.args.end 0 ∷ []) (burst c.args.line c.args.number c.args.end c.args.count) c.burst_there.result (λ w t. sym c.if-is_agents.false ∙ c.is_agents.ensures w t) c.burst_there.ensures
