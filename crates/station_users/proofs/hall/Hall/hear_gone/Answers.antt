use Rattle.station_sessions.specs.declared.place.Place.TheVariants.{End}
use Rattle.station_users.specs.Outcomes.{far_ended}
use Rattle.station_users.specs.States.{far_at}
use Rattle.station_users.proofs.Halls.{found_goes, not_found}
use Rattle.station_users.proofs.hall.Hall.hear_gone.Goals as goal

pub returns-in_ok-end_far-in-Some : goal.returns-in_ok-end_far-in-Some
returns-in_ok-end_far-in-Some c = found_goes (far_at (End c.args.member c.args.id)) (far_ended c.args.turn.moment) c.in-Some.nth c.args.self.now c.end_far.new.self c.in-Some.ensures c.in_ok-end_far-in-Some.ensures

pub returns-in-None : goal.returns-in-None
returns-in-None c = not_found (far_at (End c.args.member c.args.id)) (far_ended c.args.turn.moment) c.args.self.now c.in-None.ensures
