use Rattle.std.proofs.lemmas.Result.{IfOk-weaker}
use Rattle.std.specs.Prelude.{None}
use Rattle.net_verdict.proofs.Blames.{judges_as, taken_none}
use Rattle.net_verdict.proofs.causes.judge.Goals as goal

pub returns-in-Some : goal.returns-in-Some
returns-in-Some c =
    IfOk-weaker c.judge_told.result _ _ (λ cause judges nodes e. judges_as _ _ _ _ cause (c.in-Some.ensures nodes c.args.numbered.now.line e) judges) c.judge_told.ensures

pub returns-in-None : goal.returns-in-None
returns-in-None c = λ nodes e. judges_as c.args.verdict.now c.args.verdict.now _ _ None (c.in-None.ensures nodes c.args.numbered.now.line e) (taken_none c.args.verdict.now)
