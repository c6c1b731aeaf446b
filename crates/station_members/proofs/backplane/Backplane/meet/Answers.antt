use Rattle.std.proofs.Common.{refl}
use Rattle.station_members.proofs.Moves.{meets}
use Rattle.station_members.proofs.backplane.Backplane.meet.Goals as goal

pub returns : goal.returns
returns c = meets c.args.self.now c.give_quality.new.self _ c.args.call.now c.args.alias.now c.args.at c.in_ok-give_quality.ensures refl c.in_ok-give_act_only.ensures.goes
