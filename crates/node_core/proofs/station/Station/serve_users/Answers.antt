use Rattle.std.proofs.Common.{◌≡◌, false, length, refl, rules, subst, sym}
use Rattle.node_core.specs.Going.{HasTurned}
use Rattle.node_model.specs.States.{State}
use Rattle.node_model.specs.Turns.{Turn}
use Rattle.node_model.proofs.Settled.{users_idle}
use Rattle.node_core.proofs.Serving.{nobody_held}
use Rattle.node_core.proofs.station.Station.serve_users.Goals as goal

pub returns-then-is_none : goal.returns-then-is_none
returns-then-is_none c = λ n t.
    let s = c.args.self.now in
    let first = c.first_text.ensures n t.0 in
    let none : length s.sessions.items ≡ 0 = search rules in
    let e = users_idle c.parts.ensures.offers c.parts.ensures.takes c.parts.ensures.less c.args.now.0 n (nobody_held s n t.0 none) (search (rules, first)) in
    subst (λ (x : Turn State). HasTurned x s false) (sym e) (record { did_is = refl; stands = t })
