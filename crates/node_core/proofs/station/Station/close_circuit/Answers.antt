use Rattle.std.proofs.Common.{refl, rules}
use Rattle.node_model.specs.Bridging as bridging
use Rattle.node_model.specs.States.{State}
use Rattle.node_model.specs.Users.{at_session}
use Rattle.node_core.proofs.Placing.{session_told}
use Rattle.node_core.proofs.station.Station.close_circuit.Goals as goal

pub close_end-requires : goal.close_end-requires
close_end-requires c =
    let n = c.requires.0 in
    (at_session c.args.nth bridging.note_closed n, session_told bridging.note_closed (λ x. refl) c.args.self.now c.with_session.new.self c.args.nth (c.with_session.ensures bridging.note_closed (λ x y r. search rules)) n c.requires.1)

pub returns-in_ok-close_end-in-Some : goal.returns-in_ok-close_end-in-Some
returns-in_ok-close_end-in-Some c = λ n t.
    let m : State = at_session c.args.nth bridging.note_closed n in
    let h = session_told bridging.note_closed (λ x. refl) c.args.self.now c.with_session.new.self c.args.nth (c.with_session.ensures bridging.note_closed (λ x y r. search rules)) n t in
    rw (← c.in-Some.ensures n t) (record { did_is = refl; stands = c.in_ok-close_end-in-Some.ensures m h })
