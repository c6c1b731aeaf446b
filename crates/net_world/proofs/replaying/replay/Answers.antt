use Rattle.std.proofs.Common.{◌∙◌, ap, sym, subst}
use Rattle.std.proofs.lemmas.Result.{err_from_is_err_and}
use Rattle.net_model.specs.Lines.{world}
use Rattle.net_model.specs.Standing.{IsTraceOf, Left}
use Rattle.net_model.specs.World.{start}
use Rattle.net_world.proofs.Allowances.{allowance_stays}
use Rattle.net_world.proofs.replaying.replay.Goals as goal

pub returns-clause-ok : goal.returns-clause-ok
unfolding world
returns-clause-ok c =
    let plan = c.args.network.now in
    let all = rw c.instructions.ensures at c.in_ok-do_all.ensures.runs in
    let there = all (start plan) c.in_ok-world.ensures.stands in
    subst (λ (l : Left). IsTraceOf l (world plan)) (sym c.left.ensures.left) there.trace

pub returns-clause-allowance : goal.returns-clause-allowance
unfolding world
returns-clause-allowance c =
    let plan = c.args.network.now in
    let all = rw c.instructions.ensures at c.in_ok-do_all.ensures.runs in
    let there = all (start plan) c.in_ok-world.ensures.stands in
    ap (λ (l : Left). l.allowance) c.left.ensures.left ∙ (there.trace.allowance ∙ allowance_stays plan (rw c.instructions.ensures at c.in_ok-do_all.ensures.sound))

pub returns-in_err-do_all-clause-err : goal.returns-in_err-do_all-clause-err
unfolding world
returns-in_err-do_all-clause-err c =
    let p = err_from_is_err_and c.from_residual-in_err-do_all.result c.from_residual-in_err-do_all.ensures.1 in
    rw (p.1, p.2) ((rw c.instructions.ensures at c.in_err-do_all.ensures.runs) (start c.args.network.now) c.in_ok-world.ensures.stands)

pub returns-clause-sound : goal.returns-clause-sound
returns-clause-sound c = record { starts = c.in_ok-world.ensures.starts; instructions = rw c.instructions.ensures at c.in_ok-do_all.ensures.sound }
