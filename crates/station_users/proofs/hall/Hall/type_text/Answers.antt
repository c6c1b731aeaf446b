use Rattle.station_sessions.specs.declared.place.Place.TheVariants.{Console}
use Rattle.station_users.specs.Consoles.{type_at}
use Rattle.station_users.specs.States.{user_at}
use Rattle.station_users.proofs.Halls.{found_goes, not_found}
use Rattle.station_users.proofs.hall.Hall.type_text.Goals as goal

pub returns-in_ok-type_nth-in-Some : goal.returns-in_ok-type_nth-in-Some
returns-in_ok-type_nth-in-Some c = found_goes (user_at (Console c.args.console)) (type_at c.args.text.now) c.in-Some.nth c.args.self.now c.type_nth.new.self c.in-Some.ensures c.in_ok-type_nth-in-Some.ensures

pub returns-in-None : goal.returns-in-None
returns-in-None c = not_found (user_at (Console c.args.console)) (type_at c.args.text.now) c.args.self.now c.in-None.ensures
