use Rattle.std.proofs.Common.{ap, arith, length, List}
use Rattle.std.proofs.lemmas.Result.{err_from_is_err_and}
use Rattle.radio_base.specs.declared.modulus.LinkModulus.TheVariants.{Modulo8}
use Rattle.node_core.specs.Acts.{act_of}
use Rattle.net_model.specs.declared.air.Aired.{Aired}
use Rattle.net_model.specs.World.{Act, World, put}
use Rattle.net_world.proofs.Growing.{reach_stays}
use Rattle.net_world.proofs.Runs.{refused_still}
use Rattle.net_world.proofs.world.World.input.Goals as goal

pub returns-in_err-put_in_air-clause-err : goal.returns-in_err-put_in_air-clause-err
returns-in_err-put_in_air-clause-err c =
    let p = err_from_is_err_and c.from_residual.result c.from_residual.ensures.1 in
    rw (p.1, p.2) (λ w t.
    let v : World = put c.args.here.line c.args.here.at Modulo8 w in
    let same = ap (λ (air : List Aired). length air) (reach_stays c.args.here.line c.args.here.at (Act (act_of c.args.act.now)) v) in
    refused_still _ (length v.air) _ (omega (arith, same)) (c.in_err-put_in_air.ensures w t))

pub returns-clause-goes : goal.returns-clause-goes
returns-clause-goes c = λ w t. c.in_ok-answer.ensures.goes (put c.args.here.line c.args.here.at Modulo8 w) (c.in_ok-put_in_air.ensures w t)

pub returns-clause-answer : goal.returns-clause-answer
returns-clause-answer c = λ w t. c.in_ok-answer.ensures.answer (put c.args.here.line c.args.here.at Modulo8 w) (c.in_ok-put_in_air.ensures w t)
