use Rattle.std.proofs.Common.{◌≡◌, ◌∙◌, [], refl, sym, ap, subst}
use Rattle.std.specs.Prelude.{true, false}
use Rattle.circuit_table.specs.Sets as sets
use Rattle.circuit_table.specs.Standing as answers
use Rattle.node_model.specs.Bridging as bridging
use Rattle.node_model.specs.Links as circuits
use Rattle.node_model.specs.Pumping.{pump}
use Rattle.node_core.specs.Going.{HoldsTold}
use Rattle.node_model.specs.States.{State, at_set}
use Rattle.node_model.specs.Users as users
use Rattle.node_core.proofs.Placing.{noted}
use Rattle.node_core.proofs.Using.{drained, not_taken, resting, set_acts}
use Rattle.node_core.proofs.station.Station.give_from.Goals as goal

pub take-requires : goal.take-requires
take-requires c = drained c.args.self.now c.requires

pub say-requires : goal.say-requires
say-requires c =
    let n = c.requires.0 in
    let act = sets.Calls c.args.id sets.Takes c.args.now.0 in
    let m : State = at_set (circuits.acts act) n in
    let h = set_acts act c.args.self.now c.take.new.self c.take.ensures.goes n c.requires.1 in
    (pump c.args.now.0 m, (c.in_ok-pump.ensures.goes m h, c.in_ok-pump.ensures.told m))

pub returns-in_ok-say : goal.returns-in_ok-say
returns-in_ok-say c = λ n t.
    let s = c.args.self.now in
    let id = c.args.id in
    let nth = c.args.nth in
    let act = sets.Calls id sets.Takes c.args.now.0 in
    let rest = resting s n t in
    let some : users.has_taken (answers.take_answer (users.end_at id n)) ≡ true =
    sym (ap users.has_taken (c.take.ensures.answer n.set.set rest)) ∙ (sym c.has_taken-taken.ensures ∙ c.if-taken.true) in
    let m : State = at_set (circuits.acts act) n in
    let p : State = pump c.args.now.0 m in
    let h1 = c.in_ok-pump.ensures.goes m (set_acts act s c.take.new.self c.take.ensures.goes n t) in
    let message = answers.message_at [] (users.end_at id n) in
    let is : c.take.new.out.items ≡ message = rw c.new-message.ensures at (c.take.ensures.message n.set.set rest) in
    let q : State = users.at_session nth (bridging.log_got message) p in
    let h2 = noted (bridging.log_got message) (λ x. refl) c.pump.new.self p nth h1 in
    let step = bridging.log_gave (users.outcome_for nth message q) message in
    let r : State = users.at_session nth step q in
    let h3 = noted step (λ x. refl) c.pump.new.self q nth h2 in
    let said = subst (λ x. HoldsTold c.say.new.self (users.say c.args.now.0 nth x r)) is (c.in_ok-say.ensures r (h3, c.in_ok-pump.ensures.told m)) in
    rw some (record { did_is = c.if-taken.true; stands = said })

pub returns-else-taken : goal.returns-else-taken
returns-else-taken c = λ n t.
    let s = c.args.self.now in
    let id = c.args.id in
    let none : users.has_taken (answers.take_answer (users.end_at id n)) ≡ false =
    sym (ap users.has_taken (c.take.ensures.answer n.set.set (resting s n t))) ∙ (sym c.has_taken-taken.ensures ∙ c.if-taken.false) in
    rw none (record { did_is = c.if-taken.false; stands = (not_taken s c.take.new.self id c.args.now.0 n t c.take.ensures.goes none, t.1) })
