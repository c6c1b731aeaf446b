use Rattle.std.proofs.Common.{◌∙◌}
use Rattle.std.specs.Prelude.{slice_get}
use Rattle.station_users.specs.Asking.{do_line, do_taken, line_by}
use Rattle.station_users.specs.States.{UsersState, at_nth}
use Rattle.station_users.specs.Texts.{take_line}
use Rattle.station_users.proofs.Halls.{hall_by_look, hall_then}
use Rattle.station_users.proofs.hall.Hall.do_line.Goals as goal

pub returns : goal.returns
unfolding do_line
returns c =
    let now = c.args.turn.moment in
    let nth = c.args.nth in
    let line = c.deref.result.now in
    hall_by_look (λ (u : UsersState). line_by (slice_get u.sessions nth) now u) (λ line u. do_taken line nth now (at_nth nth (take_line now) u))
    line c.args.self.now c.do_taken.new.self (λ u t. c.deref.ensures.value ∙ c.in_ok-line.ensures.line u t)
    (hall_then (at_nth nth (take_line now)) (do_taken line nth now) c.args.self.now c.take_line.new.self c.do_taken.new.self
    c.in_ok-line.ensures.goes c.in_ok-do_taken.ensures)
