use Rattle.std.proofs.Common.{◌≡◌, ◌∙◌, ap, length, arith}
use Rattle.station_users.proofs.users.Users.len.Goals as goal

pub returns : goal.returns
returns c = λ u t. let held = rw (← c.self.view_is) at t in
    let count : c.len.result ≡ length c.self.inside.hall.sessions.items = omega (arith, c.len.ensures) in
    count ∙ ap length held.hall.sessions
