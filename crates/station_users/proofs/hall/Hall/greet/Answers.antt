use Rattle.std.proofs.Common.{◌∙◌, sym, true, false}
use Rattle.std.specs.Prelude.{if◌then◌else◌}
use Rattle.station_lists.specs.Telling.{told_text}
use Rattle.station_lists.specs.declared.told.Told.TheVariants as told
use Rattle.station_users.specs.Greeting.{admit, greet, turn_away}
use Rattle.station_users.specs.States.{UsersState}
use Rattle.station_users.proofs.Halls.{hall_by_look}
use Rattle.station_users.proofs.hall.Hall.greet.Goals as goal

pub returns-in_ok-turn_away : goal.returns-in_ok-turn_away
unfolding greet
returns-in_ok-turn_away c =
    let now = c.args.turn.moment in
    let x = c.args.session in
    hall_by_look (λ (u : UsersState). u.stopping) (λ stops u. if stops then turn_away (told_text told.GoingDown) x now u else admit x now u) true
    c.args.self.now c.turn_away.new.self (λ u t. sym c.if-self.true ∙ t.stopping) c.in_ok-turn_away.ensures

pub returns-in_ok-admit : goal.returns-in_ok-admit
unfolding greet
returns-in_ok-admit c =
    let now = c.args.turn.moment in
    let x = c.args.session in
    hall_by_look (λ (u : UsersState). u.stopping) (λ stops u. if stops then turn_away (told_text told.GoingDown) x now u else admit x now u) false
    c.args.self.now c.admit.new.self (λ u t. sym c.if-self.false ∙ t.stopping) c.in_ok-admit.ensures
