use Rattle.std.proofs.Common.{refl}
use Rattle.station_members.proofs.Moves.{hears}
use Rattle.station_members.proofs.backplane.Backplane.hear_at.Goals as goal

pub returns : goal.returns
returns c =
    hears c.args.self.now (record c.args.self.now { desk = c.hear_at.new.self }) _ c.args.at c.args.port c.args.heading.now c.args.octets.now c.args.now
    c.is_set_up.result c.in_ok-intake.intake refl c.is_set_up.ensures c.in_ok-intake.ensures.goes c.in_ok-intake.ensures.intake c.in_ok-take_in.ensures
