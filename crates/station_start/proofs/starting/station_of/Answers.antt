use Rattle.station_settings.specs.Starting.{start_of}
use Rattle.station_users.specs.States.{new_state}
use Rattle.station_start.proofs.starting.station_of.Goals as goal

pub returns : goal.returns
returns c = (
  c.in_ok-about.about,
  c.in_ok-about.ensures,
  c.new-2.ensures (new_state c.in_ok-about.about (start_of c.args.pair c.args.file.now))
      (c.new.ensures (start_of c.args.pair c.args.file.now) c.in_ok-members.ensures),
)
