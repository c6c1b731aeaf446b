use Rattle.std.proofs.Common.{◌≡◌, ◌∙◌, [], ap, refl, subst}
use Rattle.std.proofs.lemmas.Result.{err_from_is_err_and}
use Rattle.circuit_table.specs.CircuitSets.{SetStands}
use Rattle.circuit_table.specs.Pumps as inputs
use Rattle.circuit_table.specs.Sets as sets
use Rattle.circuit_table.specs.Standing.{message_at}
use Rattle.node_core.specs.Acts.{answer_to_take}
use Rattle.node_model.specs.Links.{acts}
use Rattle.node_core.proofs.Holding.{set_steps}
use Rattle.node_core.proofs.station.Station.take.Goals as goal

pub returns-in_err-waited : goal.returns-in_err-waited
unfolding acts
returns-in_err-waited c =
    let p = err_from_is_err_and c.from_residual.result c.from_residual.ensures.1 in
    rw (p.1, p.2) (λ a n h told.
    let s = c.args.self.now in
    let act = sets.Calls c.args.id sets.Takes c.args.now.0 in
    let end = sets.end_of c.args.id n.set.set.ends in
    let answer = c.in_err-waited.ensures.answer n.set.set (subst (SetStands s.set) told h.parts.set) in
    record { answer = ap (λ x. answer_to_take x (message_at [] end)) answer; stands = set_steps (inputs.acts act) s c.take.new.self c.take.ensures.goes n h told })

pub returns-in_ok-taken : goal.returns-in_ok-taken
unfolding acts
returns-in_ok-taken c = λ a n h told.
    let s = c.args.self.now in
    let act = sets.Calls c.args.id sets.Takes c.args.now.0 in
    let end = sets.end_of c.args.id n.set.set.ends in
    let stands = subst (SetStands s.set) told h.parts.set in
    let answer = rw c.if-waited.true at (c.in_ok-waited.ensures.answer n.set.set stands) in
    let message : c.take.new.out.items ≡ message_at [] end = rw c.new-message.ensures at (c.in_ok-waited.ensures.message n.set.set stands) in
    let taken : c.in_ok-taken.taken ≡ message_at [] end = c.in_ok-taken.ensures ∙ (c.as_slice.ensures.value ∙ message) in
    record { answer = rw (← answer, ← taken) refl; stands = set_steps (inputs.acts act) s c.take.new.self c.take.ensures.goes n h told }

pub returns-else-waited : goal.returns-else-waited
unfolding acts
returns-else-waited c = λ a n h told.
    let s = c.args.self.now in
    let act = sets.Calls c.args.id sets.Takes c.args.now.0 in
    let end = sets.end_of c.args.id n.set.set.ends in
    let answer = rw c.if-waited.false at (c.in_ok-waited.ensures.answer n.set.set (subst (SetStands s.set) told h.parts.set)) in
    record { answer = ap (λ x. answer_to_take x (message_at [] end)) answer; stands = set_steps (inputs.acts act) s c.take.new.self c.take.ensures.goes n h told }
