use Rattle.std.proofs.Common.{◌∙◌, ◌++◌, ap}
use Rattle.net_model.specs.Traces.{left_of}
use Rattle.net_report.proofs.Soaking.{line_joined}
use Rattle.net_report.proofs.soak.text_of.Goals as goal

pub returns : goal.returns
returns c = λ w trace.
    let counts = c.as_str.ensures.value ∙ c.in_ok-start.ensures in
    line_joined (left_of c.args.trace.now) w c.args.seed c.args.late c.deref.result.now c.new-text.result c.text.new.self c.write_verdict.new.text trace
    (c.deref.ensures.value ∙ c.in_ok-ends.ensures w trace) c.new-text.ensures (c.in_ok-text.ensures.ok ∙ ap (λ s. c.new-text.result ++ s) counts) c.in_ok-write_verdict.ensures
