use Rattle.std.proofs.lemmas.Result.{IfOk-weaker}
use Rattle.net_model.specs.Lines.{world}
use Rattle.look_cmd.proofs.traces.cause_of.Goals as goal

pub returns-in-Some : goal.returns-in-Some
returns-in-Some c = IfOk-weaker c.late_cause.result _ _ (λ cause found plan allowed trace verdict. found plan (world plan) c.args.late allowed trace verdict) c.late_cause.ensures
