use Rattle.std.proofs.Common.{◌≡◌, ◌<◌, ◌∙◌, ap, sym, length, arith}
use Rattle.std.proofs.lemmas.List.Edits.{map_over_more}
use Rattle.node_model.specs.Sessions as sessions
use Rattle.node_model.specs.Sessions.{Session}
use Rattle.node_core.proofs.sessions.hearing.hear_notice.Goals as goal

pub loop-session-preserved : goal.loop-session-preserved
loop-session-preserved c =
    let step : Session → Session = λ (s : Session). sessions.bare (sessions.hear_notice c.args.id c.args.notice s) in
    let k : c.hear_notice.new.self ≡ step c.session-item.result = c.in_ok-hear_notice.ensures ∙ ap step (sym c.session-item.is) in
    let within : c.loop-session.session-index < length c.args.all.now.items = omega (arith, ap length c.deref_mut-session-items.ensures.value) in
    rw k (map_over_more step c.args.all.now.items c.loop-session.session-items c.loop-session.session-index c.session-item.result within c.loop-session.invariant c.session-item.is)
