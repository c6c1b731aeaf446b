use Rattle.std.proofs.Common.{refl, subst, sym}
use Rattle.std.specs.Prelude.{Ok, Err}
use Rattle.std.proofs.lemmas.Result.{err_from_is_err_and}
use Rattle.circuit_table.specs.CircuitSets.{SetStands}
use Rattle.circuit_table.specs.Pumps as inputs
use Rattle.circuit_table.specs.Sets as sets
use Rattle.node_core.specs.declared.acts.ActDone.TheVariants.{Made}
use Rattle.node_core.specs.Acts.{connect_by, connect_refusal}
use Rattle.node_model.specs.Links.{acts}
use Rattle.node_core.specs.Going.{Answers}
use Rattle.node_core.specs.Standing.{Holds}
use Rattle.node_core.proofs.Holding.{set_steps}
use Rattle.node_core.proofs.Refusing.{not_spent, not_spent_by}
use Rattle.node_core.proofs.station.Station.connect.Goals as goal

pub returns-in_err-id : goal.returns-in_err-id
returns-in_err-id c =
    let p = err_from_is_err_and c.from_residual.result c.from_residual.ensures.1 in
    rw (p.1, p.2) (λ a n h told.
    let s = c.args.self.now in
    let act = sets.Connect c.args.dest.now c.args.now.0 in
    let why = c.in_err-id.field-0.0 in
    let s2 = record s { set = c.connect.new.self } in
    let spent = not_spent_by why c.connect.new.self.spent a c.in_err-id.ensures.memory.1 in
    let same = c.in_err-id.ensures.err spent in
    let answer = rw h.parts.rules at (c.in_err-id.ensures.answer spent n.set.set n.log (subst (SetStands s.set) told h.parts.set) h.parts.log) in
    subst (λ x. Answers s2 (Err (connect_refusal why)) (connect_by x act n)) answer
    (record { answer = refl; stands = subst (λ k. Holds (record s { set = k }) n) (sym same) h }))

pub returns : goal.returns
unfolding acts
returns c = λ a n h told.
    let s = c.args.self.now in
    let act = sets.Connect c.args.dest.now c.args.now.0 in
    let id = c.in_ok-id.id in
    let s2 = record s { set = c.connect.new.self } in
    let spent = not_spent c.connect.new.self.spent (λ t. absurd (cc (c.in_ok-id.ensures.memory.1 t))) in
    let answer = rw h.parts.rules at (c.in_ok-id.ensures.answer spent n.set.set n.log (subst (SetStands s.set) told h.parts.set) h.parts.log) in
    subst (λ x. Answers s2 (Ok (Made id)) (connect_by x act n)) answer
    (record { answer = refl; stands = set_steps (inputs.acts act) s c.connect.new.self c.in_ok-id.ensures.goes n h told })
