use Rattle.station_users.specs.Texts.{need_text}
use Rattle.station_users.specs.Things.{pass_on, pass_rest}
use Rattle.station_users.proofs.Going.{then}
use Rattle.station_users.proofs.things.pass_on.Goals as goal

pub returns : goal.returns
unfolding pass_on
returns c =
    then (need_text c.args.turn.moment) (pass_rest c.args.turn.moment) c.args.sides.now c.args.session.now c.need_text.new.sides
    c.need_text.new.session c.pass_rest.new.sides c.pass_rest.new.session c.in_ok-need_text.ensures c.in_ok-pass_rest.ensures
