use Rattle.std.proofs.Common.{ap, subst}
use Rattle.std.proofs.lemmas.Result.{err_from_is_err_and}
use Rattle.circuit_table.specs.CircuitSets.{SetStands}
use Rattle.circuit_table.specs.Pumps as inputs
use Rattle.circuit_table.specs.Sets as sets
use Rattle.node_core.specs.Acts.{answer_to_close}
use Rattle.node_model.specs.Links.{acts}
use Rattle.node_core.proofs.Holding.{set_steps}
use Rattle.node_core.proofs.station.Station.close.Goals as goal

pub returns-in_err-close : goal.returns-in_err-close
unfolding acts
returns-in_err-close c =
    let p = err_from_is_err_and c.from_residual.result c.from_residual.ensures.1 in
    rw (p.1, p.2) (λ a n h told.
    let s = c.args.self.now in
    let act = sets.Calls c.args.id sets.Closes c.args.now.0 in
    let answer = c.in_err-close.ensures.answer n.set.set (subst (SetStands s.set) told h.parts.set) in
    record { answer = ap answer_to_close answer; stands = set_steps (inputs.acts act) s c.close.new.self c.close.ensures.goes n h told })

pub returns : goal.returns
unfolding acts
returns c = λ a n h told.
    let s = c.args.self.now in
    let act = sets.Calls c.args.id sets.Closes c.args.now.0 in
    let answer = c.in_ok-close.ensures.answer n.set.set (subst (SetStands s.set) told h.parts.set) in
    record { answer = ap answer_to_close answer; stands = set_steps (inputs.acts act) s c.close.new.self c.close.ensures.goes n h told }
