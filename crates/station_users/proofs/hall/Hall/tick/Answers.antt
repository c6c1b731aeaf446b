use Rattle.station_users.specs.Ending.{end_idle, started, tick}
use Rattle.station_users.proofs.Halls.{hall_then}
use Rattle.station_users.proofs.hall.Hall.tick.Goals as goal

pub returns : goal.returns
unfolding tick
returns c =
    hall_then (started c.args.turn.moment) (end_idle c.args.turn.moment) c.args.self.now c.start.new.self c.end_idle.new.self
    c.start.ensures c.in_ok-end_idle.ensures
