use Rattle.station_sessions.specs.declared.place.Place.TheVariants.{Console}
use Rattle.station_users.specs.Consoles.{hung_up}
use Rattle.station_users.specs.States.{user_at}
use Rattle.station_users.specs.Steps.{at_session}
use Rattle.station_users.proofs.Halls.{found_goes, not_found}
use Rattle.station_users.proofs.hall.Hall.hang_up.Goals as goal

pub returns-in-Some : goal.returns-in-Some
returns-in-Some c = found_goes (user_at (Console c.args.console)) (at_session hung_up) c.in-Some.nth c.args.self.now c.leave_nth.new.self c.in-Some.ensures c.leave_nth.ensures

pub returns-in-None : goal.returns-in-None
returns-in-None c = not_found (user_at (Console c.args.console)) (at_session hung_up) c.args.self.now c.in-None.ensures
