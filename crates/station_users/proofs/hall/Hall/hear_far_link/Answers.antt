use Rattle.station_sessions.specs.declared.place.Place.TheVariants.{Link}
use Rattle.station_users.specs.Outcomes as outcomes
use Rattle.station_users.specs.States.{far_at}
use Rattle.station_users.proofs.Halls.{found_goes, not_found}
use Rattle.station_users.proofs.hall.Hall.hear_far_link.Goals as goal

pub returns-in_ok-note_link-in-Some : goal.returns-in_ok-note_link-in-Some
returns-in_ok-note_link-in-Some c = found_goes (far_at (Link c.args.member c.args.peer.now)) (outcomes.hear_link c.args.notice c.args.member c.args.peer.now c.args.turn.moment) c.in-Some.nth c.args.self.now c.note_link.new.self c.in-Some.ensures c.in_ok-note_link-in-Some.ensures

pub returns-in-None : goal.returns-in-None
returns-in-None c = not_found (far_at (Link c.args.member c.args.peer.now)) (outcomes.hear_link c.args.notice c.args.member c.args.peer.now c.args.turn.moment) c.args.self.now c.in-None.ensures
