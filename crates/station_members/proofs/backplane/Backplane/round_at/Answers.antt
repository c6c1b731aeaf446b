use Rattle.std.proofs.Common.{refl}
use Rattle.node_core.specs.Acts.{Round}
use Rattle.node_core.specs.Bridged.{Acts}
use Rattle.station_members.specs.States.{Own}
use Rattle.station_members.proofs.Giving.{gives}
use Rattle.station_members.proofs.backplane.Backplane.round_at.Goals as goal

pub returns : goal.returns
returns c = gives c.args.self.now _ c.args.at Own (Acts c.args.now.0 Round) refl c.in_ok-give_act_only.ensures.goes
