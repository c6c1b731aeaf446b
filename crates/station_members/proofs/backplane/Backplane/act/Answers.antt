use Rattle.std.proofs.Common.{refl}
use Rattle.node_core.specs.Acts.{act_of}
use Rattle.node_core.specs.Bridged.{Acts}
use Rattle.station_members.specs.States.{Own}
use Rattle.station_members.proofs.Giving.{gives}
use Rattle.station_members.proofs.backplane.Backplane.act.Goals as goal

pub returns-clause-goes : goal.returns-clause-goes
returns-clause-goes c = λ is. gives c.args.self.now _ c.args.at Own (Acts c.args.now.0 (act_of c.args.act.now)) refl (c.give_act.ensures.goes is)
