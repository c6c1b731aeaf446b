use Rattle.station_members.proofs.Moves.{makes}
use Rattle.station_members.proofs.backplane.Backplane.make.Goals as goal

pub returns : goal.returns
returns c = makes c.args.self.now _ c.args.config _ c.in_ok-hosting.ensures.stands c.in_ok-push.ensures.items c.in_ok-seat.ensures
