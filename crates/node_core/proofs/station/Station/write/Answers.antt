use Rattle.std.proofs.Common.{refl, subst}
use Rattle.std.specs.Prelude.{Ok, Err}
use Rattle.std.proofs.lemmas.Result.{err_from_is_err_and}
use Rattle.circuit_table.specs.CircuitSets.{SetStands}
use Rattle.circuit_table.specs.Pumps as inputs
use Rattle.circuit_table.specs.Sets as sets
use Rattle.node_core.specs.declared.acts.ActDone.TheVariants.{Done}
use Rattle.node_core.specs.Acts.{write_by, write_refusal}
use Rattle.node_model.specs.Links.{acts}
use Rattle.node_core.specs.Going.{Answers}
use Rattle.node_core.proofs.Holding.{set_steps, set_unchanged}
use Rattle.node_core.proofs.station.Station.write.Goals as goal

pub returns-in_err-write : goal.returns-in_err-write
unfolding acts
returns-in_err-write c =
    let p = err_from_is_err_and c.from_residual.result c.from_residual.ensures.1 in
    rw (p.1, p.2) (λ a n h told.
    let s = c.args.self.now in
    let act = sets.Calls c.args.id (sets.Writes c.args.message.now) c.args.now.0 in
    let why = c.in_err-write.field-0.0 in
    let s2 = record s { set = c.write.new.self } in
    let answer = c.in_err-write.ensures.answer n.set.set (subst (SetStands s.set) told h.parts.set) in
    subst (λ x. Answers s2 (Err (write_refusal why)) (write_by x act n)) answer
    (record { answer = refl; stands = set_unchanged s c.write.new.self c.in_err-write.ensures.err n h }))

pub returns : goal.returns
unfolding acts
returns c = λ a n h told.
    let s = c.args.self.now in
    let act = sets.Calls c.args.id (sets.Writes c.args.message.now) c.args.now.0 in
    let s2 = record s { set = c.write.new.self } in
    let answer = c.in_ok-write.ensures.answer n.set.set (subst (SetStands s.set) told h.parts.set) in
    let goes = c.in_ok-write.ensures.goes in
    subst (λ x. Answers s2 (Ok Done) (write_by x act n)) answer
    (record { answer = refl; stands = set_steps (inputs.acts act) s c.write.new.self goes n h told })
