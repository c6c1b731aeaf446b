use Rattle.station_sessions.specs.Noting as noting
use Rattle.station_users.specs.Steps.{at_session}
use Rattle.station_users.specs.Outcomes.{far_ended, link_ended}
use Rattle.station_users.proofs.Going.{changes, then}
use Rattle.station_users.proofs.outcomes.link_ended.Goals as goal

pub returns : goal.returns
unfolding link_ended
returns c =
    let lost = noting.lost c.args.failed in
    then (at_session lost) (far_ended c.args.turn.moment) c.args.sides.now c.args.session.now c.args.sides.now c.note_lost.new.self
    c.far_ended.new.sides c.far_ended.new.session
    (changes lost c.args.sides.now c.args.session.now c.note_lost.new.self c.note_lost.ensures) c.in_ok-far_ended.ensures
