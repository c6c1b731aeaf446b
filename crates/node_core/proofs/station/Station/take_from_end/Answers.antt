use Rattle.std.proofs.Common.{◌≡◌, ◌∙◌, [], refl, sym, ap, subst, rules}
use Rattle.std.specs.Prelude.{true, false}
use Rattle.circuit_table.specs.Sets as sets
use Rattle.circuit_table.specs.Standing as answers
use Rattle.node_model.specs.Links as circuits
use Rattle.node_core.specs.Standing.{Holds}
use Rattle.node_model.specs.States.{State, at_set}
use Rattle.node_model.specs.Users as users
use Rattle.node_core.proofs.Placing.{logged, session_goes}
use Rattle.node_core.proofs.Using.{drained, not_taken, resting, set_acts}
use Rattle.node_core.proofs.station.Station.take_from_end.Goals as goal

pub take-requires : goal.take-requires
take-requires c = drained c.args.self.now c.requires

pub returns-in_ok-pump : goal.returns-in_ok-pump
returns-in_ok-pump c = λ n t.
    let s = c.args.self.now in
    let id = c.args.id in
    let act = sets.Calls id sets.Takes c.args.now.0 in
    let rest = resting s n t in
    let some : users.has_taken (answers.take_answer (users.end_at id n)) ≡ true =
    sym (ap users.has_taken (c.take.ensures.answer n.set.set rest)) ∙ (sym c.has_taken-taken.ensures ∙ c.if-taken.true) in
    let s1 = record s { set = c.take.new.self } in
    let m : State = at_set (circuits.acts act) n in
    let h1 = set_acts act s c.take.new.self c.take.ensures.goes n t in
    let rested = session_goes (users.with_rest c.take.new.out.items) (λ x. refl) s1 c.with_session.new.self c.args.nth (c.with_session.ensures (users.with_rest c.take.new.out.items) (λ x y r. search rules)).sessions (c.with_session.ensures (users.with_rest c.take.new.out.items) (λ x y r. search rules)).same m h1 in
    let h2 = logged (users.with_rest c.take.new.out.items) (users.with_text c.take.new.out.items) (λ x. refl) c.with_session.new.self m c.args.nth rested in
    let text : c.take.new.out.items ≡ answers.message_at [] (users.end_at id n) = rw c.new-text.ensures at (c.take.ensures.message n.set.set rest) in
    let b : State = users.at_session c.args.nth (users.with_text (answers.message_at [] (users.end_at id n))) m in
    let h3 : Holds c.with_session.new.self b = subst (λ x. Holds c.with_session.new.self (users.at_session c.args.nth (users.with_text x) m)) text h2 in
    rw some (record { did_is = c.if-taken.true; stands = (c.in_ok-pump.ensures.goes b h3, c.in_ok-pump.ensures.told b) })

pub returns-else-taken : goal.returns-else-taken
returns-else-taken c = λ n t.
    let s = c.args.self.now in
    let id = c.args.id in
    let none : users.has_taken (answers.take_answer (users.end_at id n)) ≡ false =
    sym (ap users.has_taken (c.take.ensures.answer n.set.set (resting s n t))) ∙ (sym c.has_taken-taken.ensures ∙ c.if-taken.false) in
    rw none (record { did_is = c.if-taken.false; stands = (not_taken s c.take.new.self id c.args.now.0 n t c.take.ensures.goes none, t.1) })
