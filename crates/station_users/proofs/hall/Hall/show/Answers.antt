use Rattle.std.proofs.Common.{◌∙◌}
use Rattle.station_prompt.specs.Asked.{asked}
use Rattle.station_users.specs.Asking.{show, shown}
use Rattle.station_users.specs.States.{at_nth}
use Rattle.station_users.specs.Telling.{say}
use Rattle.station_users.proofs.Halls.{hall_by_look}
use Rattle.station_users.proofs.hall.Hall.show.Goals as goal

pub returns : goal.returns
unfolding show
returns c =
    let now = c.args.turn.moment in
    let nth = c.args.nth in
    hall_by_look (shown (asked c.args.command.now) nth now) (λ text u. at_nth nth (say text now) u) c.bytes.result.now c.args.self.now
    c.say.new.self (λ u t. c.bytes.ensures ∙ c.in_ok-text.ensures u t) c.in_ok-say.ensures
