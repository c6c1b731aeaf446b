use Rattle.std.proofs.Common.{◌∙◌, sym, subst, true, false}
use Rattle.std.proofs.lemmas.Result.{err_from_is_err_and}
use Rattle.net_world.specs.Running.{Stands, course}
use Rattle.net_world.proofs.Runs.{refused_same}
use Rattle.net_world.proofs.Turning.{wrote_if}
use Rattle.net_world.proofs.world.World.write_if_taken.Goals as goal

pub returns-then-not-may_write-clause-goes : goal.returns-then-not-may_write-clause-goes
returns-then-not-may_write-clause-goes c = λ w t.
    let refused = sym c.if-not-may_write.true ∙ c.may_write.ensures w t in
    subst (λ v. Stands (course c.args.self.now) v) (wrote_if c.args.here.line c.args.here.at c.args.id c.args.message.now w false refused) t

pub returns-in_err-input-clause-err : goal.returns-in_err-input-clause-err
returns-in_err-input-clause-err c =
    let p = err_from_is_err_and c.from_residual.result c.from_residual.ensures.1 in
    rw (p.1, p.2) (λ w t.
    let written = sym c.if-not-may_write.false ∙ c.may_write.ensures w t in
    refused_same _ _ _ (wrote_if c.args.here.line c.args.here.at c.args.id c.args.message.now w true written) (c.in_err-input.ensures.err w t))

pub returns-clause-goes : goal.returns-clause-goes
returns-clause-goes c = λ w t.
    let written = sym c.if-not-may_write.false ∙ c.may_write.ensures w t in
    subst (λ v. Stands (course c.input.new.self) v) (wrote_if c.args.here.line c.args.here.at c.args.id c.args.message.now w true written) (c.in_ok-input.ensures.goes w t)
