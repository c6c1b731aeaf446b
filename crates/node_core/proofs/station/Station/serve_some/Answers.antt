use Rattle.std.proofs.Common.{◌≡◌, ◌∙◌, subst, sym}
use Rattle.std.specs.Prelude.{false, if◌then◌else◌}
use Rattle.circuit_table.specs.Pumps.{Waiting, at_rest}
use Rattle.node_model.specs.Serving.{serve_sessions, drop_turn}
use Rattle.node_core.specs.Going.{HasTurned}
use Rattle.node_model.proofs.Settled.{dropped_set}
use Rattle.node_core.proofs.station.Station.serve_some.Goals as goal

pub returns-in_ok-dropped : goal.returns-in_ok-dropped
returns-in_ok-dropped c = λ n t.
    let now = c.args.now.0 in
    let unserved : n.settings.prompt ≡ false = sym t.0.users.prompt ∙ c.if-self.false in
    let told = subst (λ (w : Waiting). w ≡ at_rest w.set) (sym (dropped_set now n)) t.1 in
    subst (λ b. HasTurned (if b then serve_sessions now n else drop_turn now n) c.drop_texts.new.self c.in_ok-dropped.dropped) (sym unserved)
    (record { did_is = c.in_ok-dropped.ensures.did n t.0; stands = (c.in_ok-dropped.ensures.goes n t.0, told) })
