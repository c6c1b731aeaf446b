use Rattle.std.proofs.Common.{◌≤◌, ◌<◌, sym, ap, length, arith, true, false}
use Rattle.std.specs.Prelude.{nat_le, if◌then◌else◌}
use Rattle.std.proofs.lemmas.Bool.{le-leb, lt-leb}
use Rattle.station_lists.specs.Telling.{told_text}
use Rattle.station_lists.specs.declared.told.Told.TheVariants as told
use Rattle.station_users.specs.Greeting.{admit, turn_away, welcome}
use Rattle.station_users.specs.States.{UsersState}
use Rattle.station_users.proofs.Halls.{hall_by_look}
use Rattle.station_users.proofs.hall.Hall.admit.Goals as goal

pub returns-in_ok-turn_away : goal.returns-in_ok-turn_away
unfolding admit
returns-in_ok-turn_away c =
    let x = c.args.session in
    hall_by_look (λ (u : UsersState). nat_le 64 (length u.sessions)) (λ full u. if full then turn_away (told_text told.NoRoom) x c.args.turn.moment u else welcome x u) true
    c.args.self.now c.turn_away.new.self
    (λ u t. let same = ap length t.sessions in sym (le-leb 64 (length u.sessions) (omega (arith, c.if-len-ge-MAX_SESSIONS.true, c.len.ensures, same))))
    c.in_ok-turn_away.ensures

pub returns-in_ok-welcome : goal.returns-in_ok-welcome
unfolding admit
returns-in_ok-welcome c =
    let x = c.args.session in
    hall_by_look (λ (u : UsersState). nat_le 64 (length u.sessions)) (λ full u. if full then turn_away (told_text told.NoRoom) x c.args.turn.moment u else welcome x u) false
    c.args.self.now c.welcome.new.self
    (λ u t. let same = ap length t.sessions in sym (lt-leb 64 (length u.sessions) (omega (arith, c.if-len-ge-MAX_SESSIONS.false, c.len.ensures, same))))
    c.in_ok-welcome.ensures
