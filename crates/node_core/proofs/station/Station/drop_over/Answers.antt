use Rattle.std.proofs.Common.{◌≡◌, ◌∙◌, ap, refl, rules}
use Rattle.std.specs.Prelude.{filter, not}
use Rattle.std.proofs.lemmas.Fn.{filter_same}
use Rattle.node_model.specs.Serving.{is_over}
use Rattle.node_model.specs.Sessions.{Session}
use Rattle.node_core.specs.Going.{SetHoldsTold}
use Rattle.node_core.proofs.Holding.{with_sessions}
use Rattle.node_core.proofs.Serving.{bare_filter}
use Rattle.node_core.proofs.station.Station.drop_over.Goals as goal

pub returns : goal.returns
returns c = λ n t.
    let s = c.args.self.now in
    let set : SetHoldsTold s.set n = (t.0.parts.set, t.1) in
    let test = λ (x : Session). not (is_over n x) in
    let kept : c.retain.new.self.items ≡ filter test s.sessions.items = filter_same _ test _ (λ x b f h. (search (rules, set), search rules)) _ _ c.retain.ensures.filtered in
    let ss = filter test n.sessions in
    (with_sessions s _ ss (kept ∙ (ap (filter test) t.0.users.sessions ∙ bare_filter test (λ x. refl) n.sessions)) refl n t.0, t.1)
