use Rattle.std.proofs.Common.{subst}
use Rattle.std.specs.Prelude.{OnOk}
use Rattle.station_users.specs.Greeting.{greet_end, greet_named}
use Rattle.station_users.specs.Standing.{HallGoes}
use Rattle.station_users.proofs.hall.Hall.greet_end.Goals as goal

pub returns-in-Some : goal.returns-in-Some
unfolding greet_end
returns-in-Some c =
    subst (λ user. OnOk c.greet_user.result (HallGoes (greet_named user c.args.member c.args.id c.args.partner.now c.args.turn.moment) c.args.self.now c.greet_user.new.self))
    c.in-Some.ensures c.greet_user.ensures

pub returns-in-None : goal.returns-in-None
unfolding greet_end
returns-in-None c =
    subst (λ user. OnOk c.close_end.result (HallGoes (greet_named user c.args.member c.args.id c.args.partner.now c.args.turn.moment) c.args.self.now c.close_end.new.self))
    c.in-None.ensures c.close_end.ensures
