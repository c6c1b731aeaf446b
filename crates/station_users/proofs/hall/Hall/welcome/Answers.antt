use Rattle.std.proofs.Common.{◌∙◌, ◌++◌, [], ◌∷◌, ap}
use Rattle.std.specs.Prelude.{codes}
use Rattle.station_lists.specs.Telling.{about}
use Rattle.station_users.specs.Greeting.{welcome}
use Rattle.station_users.specs.Steps.{session_at}
use Rattle.station_users.specs.Telling.{tell}
use Rattle.station_users.proofs.hall.Hall.welcome.Goals as goal

pub returns : goal.returns
unfolding welcome
returns c = λ u t.
    let x = c.args.session in
    let one = c.in_ok-tell.ensures u.sides t.sides in
    let name = c.deref.ensures.value ∙ ap (λ who. who.name.items) t.about in
    let told = one.session ∙ ap (λ n. (tell (about (codes "Welcome to ") n) (session_at u.sides x)).session) name in
    record {
      about = t.about;
      sides = t.sides;
      sessions = c.in_ok-push.ensures.items ∙ (ap (λ xs. xs ++ c.tell.new.session ∷ []) t.sessions ∙ ap (λ y. u.sessions ++ y ∷ []) told);
      stopping = t.stopping;
      started = t.started;
    }
