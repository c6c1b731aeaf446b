use Rattle.std.proofs.Common.{◌∙◌}
use Rattle.circuit_table.specs.Sets.{end_of}
use Rattle.net_model.specs.Mailing.{ends_here}
use Rattle.net_world.proofs.Looking.{lent_up, none_up}
use Rattle.net_world.proofs.world.World.is_up.Goals as goal

pub returns-in-Some : goal.returns-in-Some
returns-in-Some c = λ w t. c.is_up.ensures ∙ lent_up c.in-Some.end.now (end_of c.args.id (ends_here c.args.at w)) c.facts.result (c.in-Some.ensures w t) c.facts.ensures

pub returns-in-None : goal.returns-in-None
returns-in-None c = λ w t. none_up (end_of c.args.id (ends_here c.args.at w)) (c.in-None.ensures w t)
