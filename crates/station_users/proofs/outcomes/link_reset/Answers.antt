use Rattle.std.proofs.Common.{true}
use Rattle.station_users.specs.Outcomes.{close_unless_called, link_ended, link_reset}
use Rattle.station_users.proofs.Going.{then_sides}
use Rattle.station_users.proofs.outcomes.link_reset.Goals as goal

pub returns : goal.returns
unfolding link_reset
returns c =
    let now = c.args.turn.moment in
    then_sides (link_ended true now) (close_unless_called c.args.member c.args.peer.now now) c.args.sides.now c.args.session.now
    c.link_ended.new.sides c.close_unless_called.new.sides c.link_ended.new.session c.in_ok-link_ended.ensures
    c.in_ok-close_unless_called.ensures
