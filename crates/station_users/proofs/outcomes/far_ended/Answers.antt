use Rattle.std.specs.Prelude.{Some}
use Rattle.station_lists.specs.Telling.{told_text}
use Rattle.station_users.specs.Outcomes.{back, ended_as, far_end, far_ended, forget_if}
use Rattle.station_users.proofs.Going.{by_look, then}
use Rattle.station_users.proofs.outcomes.far_ended.Goals as goal

pub returns-in_ok-forget_if-in-Some : goal.returns-in_ok-forget_if-in-Some
unfolding far_ended
returns-in_ok-forget_if-in-Some c =
    let now = c.args.turn.moment in
    let end = c.in-Some.end in
    by_look (λ a. far_end a.session.stage) (λ e a. ended_as e now a) (Some end) c.args.sides.now c.args.session.now c.forget_if.new.sides
    c.forget_if.new.session (λ s stand. c.in-Some.ensures)
    (then (back (told_text end.told) now) (forget_if end.forgets now) c.args.sides.now c.args.session.now c.args.sides.now c.back.new.session
    c.forget_if.new.sides c.forget_if.new.session c.in_ok-back-in-Some.ensures c.in_ok-forget_if-in-Some.ensures)
