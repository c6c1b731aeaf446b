use Rattle.std.proofs.Common.{refl, true}
use Rattle.station_users.specs.Ending.{stop}
use Rattle.station_users.proofs.hall.Hall.stop.Goals as goal

pub returns : goal.returns
unfolding stop
returns c =
    λ u t. c.in_ok-stop_each.ensures (record u { stopping = true })
    (record { about = t.about; sides = t.sides; sessions = t.sessions; stopping = refl; started = t.started })
