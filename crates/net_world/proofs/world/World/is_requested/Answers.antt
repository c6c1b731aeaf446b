use Rattle.std.proofs.Common.{◌∙◌, ap}
use Rattle.std.specs.Prelude.{false, unwrap_or}
use Rattle.circuit_table.specs.Sets.{end_of}
use Rattle.net_model.specs.Mailing.{ends_here}
use Rattle.net_world.proofs.Looking.{requested_is}
use Rattle.net_world.proofs.world.World.is_requested.Goals as goal

pub returns : goal.returns
returns c = λ w t. c.unwrap_or.ensures ∙ (ap (λ r. unwrap_or r false) (c.requested_at.ensures w t) ∙ requested_is (end_of c.args.id (ends_here c.args.at w)))
