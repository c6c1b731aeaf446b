use Rattle.std.proofs.Common.{◌∙◌}
use Rattle.circuit_table.specs.Sets.{end_of}
use Rattle.net_model.specs.Mailing.{ends_here}
use Rattle.net_world.proofs.Looking.{lent_writes, none_writes}
use Rattle.net_world.proofs.world.World.may_write.Goals as goal

pub returns-in-Some : goal.returns-in-Some
returns-in-Some c = λ w t. c.is_ok.ensures.value ∙ lent_writes c.in-Some.end.now (end_of c.args.id (ends_here c.args.at w)) c.args.message.now c.may_write.result (c.in-Some.ensures w t) c.may_write.ensures

pub returns-in-None : goal.returns-in-None
returns-in-None c = λ w t. none_writes (end_of c.args.id (ends_here c.args.at w)) c.args.message.now (c.in-None.ensures w t)
