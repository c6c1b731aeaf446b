use Rattle.circuit_table.specs.Sets.{end_of}
use Rattle.net_model.specs.Mailing.{ends_here}
use Rattle.net_world.proofs.Looking.{lent_waits, none_waits}
use Rattle.net_world.proofs.world.World.has_message.Goals as goal

pub returns-in-Some : goal.returns-in-Some
returns-in-Some c = λ w t. lent_waits c.in-Some.end.now (end_of c.args.id (ends_here c.args.at w)) c.has_message.result (c.in-Some.ensures w t) c.has_message.ensures

pub returns-in-None : goal.returns-in-None
returns-in-None c = λ w t. none_waits (end_of c.args.id (ends_here c.args.at w)) (c.in-None.ensures w t)
