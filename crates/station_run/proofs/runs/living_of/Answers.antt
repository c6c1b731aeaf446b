use Rattle.station.specs.States.{new_state}
use Rattle.station_settings.specs.Starting.{start_of}
use Rattle.station_users.specs.States as users
use Rattle.station_run.proofs.runs.living_of.Goals as goal

pub returns : goal.returns
returns c =
    let started = c.in_ok-station.ensures in (
      started.0,
      started.1,
      rw c.status.ensures at (c.new.ensures (new_state (users.new_state started.0 (start_of c.args.pair c.args.file.now))) started.2),
    )
