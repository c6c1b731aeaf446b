use Rattle.station_users.specs.Hearing.{hear_far_link, hear_link, leave_unless_opened}
use Rattle.station_users.proofs.Halls.{hall_then}
use Rattle.station_users.proofs.hall.Hall.hear_link.Goals as goal

pub returns : goal.returns
unfolding hear_link
returns c =
    hall_then (leave_unless_opened c.args.member c.args.peer.now c.args.notice)
    (hear_far_link c.args.member c.args.peer.now c.args.notice c.args.turn.moment) c.args.self.now c.leave_unless_opened.new.self
    c.hear_far_link.new.self c.leave_unless_opened.ensures c.in_ok-hear_far_link.ensures
