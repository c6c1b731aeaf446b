use Rattle.std.proofs.Common.{◌∙◌, ap}
use Rattle.std.specs.Prelude.{is_some}
use Rattle.station_users.specs.Serving.{do_next, next_of, prepared, serve_nth, serves_nth}
use Rattle.station_users.proofs.Halls.{hall_by_look, hall_then}
use Rattle.station_users.proofs.hall.Hall.serve_nth.Goals as goal

pub returns-clause-goes : goal.returns-clause-goes
unfolding serve_nth
returns-clause-goes c =
    let now = c.args.turn.moment in
    let nth = c.args.nth in
    hall_then (prepared nth now) (λ u. do_next (next_of nth u) nth now u) c.args.self.now c.prepare.new.self c.do_next.new.self
    c.in_ok-prepare.ensures
    (hall_by_look (next_of nth) (λ thing u. do_next thing nth now u) c.in_ok-next.next c.prepare.new.self c.do_next.new.self
    c.in_ok-next.ensures c.in_ok-served.ensures.goes)

pub returns-clause-served : goal.returns-clause-served
unfolding serves_nth
returns-clause-served c = λ u t. c.in_ok-served.ensures.served ∙ ap is_some (c.in_ok-next.ensures _ (c.in_ok-prepare.ensures u t))
