use Rattle.std.proofs.Common.{◌≡◌, ◌∙◌, ap, rules}
use Rattle.std.specs.Prelude.{filter, not}
use Rattle.std.proofs.lemmas.Fn.{filter_same}
use Rattle.station_sessions.specs.Sessions.{Session, is_over}
use Rattle.station_users.specs.Serving.{drop_over}
use Rattle.station_users.proofs.hall.Hall.drop_over.Goals as goal

pub returns : goal.returns
unfolding drop_over
returns c = λ u t.
    let mid = c.note_gone.new.self in
    let gone = c.note_gone.ensures u t in
    let test = λ (x : Session). not (is_over x) in
    let kept : c.retain.new.self.items ≡ filter test mid.sessions.items = filter_same _ test _ (λ x b f h. (search rules, search rules)) _ _ c.retain.ensures.filtered in
    record { about = gone.about; sides = gone.sides; sessions = kept ∙ ap (filter test) gone.sessions; stopping = gone.stopping; started = gone.started }
