use Rattle.std.proofs.Common.{◌∙◌}
use Rattle.net_model.specs.Traces.{left_of}
use Rattle.net_verdict.proofs.Judged.{judges_all}
use Rattle.net_verdict.proofs.late.too_late.Goals as goal

pub returns : goal.returns
returns c = λ plan w allowed trace.
    judges_all c.new-verdict.result c.heed_all.new.verdict (left_of c.args.trace.now) c.members.result.now c.events.result.now c.late.result plan w c.new-verdict.ensures.start
    (c.new-verdict.ensures.allowance ∙ (c.allowance.ensures ∙ allowed)) trace c.members.ensures c.events.ensures c.in_ok-heed_all.ensures c.late.ensures
