use Rattle.std.proofs.Common.{List, sym, subst}
use Rattle.net_model.specs.declared.members.Member.{Member}
use Rattle.net_model.specs.Standing.{MembersStand}
use Rattle.net_model.specs.Traces.{left_of}
use Rattle.net_report.proofs.Texts.{report_joined}
use Rattle.net_report.proofs.reports.report_of.Goals as goal

pub returns : goal.returns
returns c = λ w trace.
    let members : MembersStand c.members.result.now w.nodes w.mails = subst (λ (ms : List Member). MembersStand ms w.nodes w.mails) (sym c.members.ensures) trace.members in
    report_joined (left_of c.args.trace.now) w c.args.late c.new-text.result c.write_events.new.text c.write_nodes.new.text c.write_verdict.new.text trace c.new-text.ensures
    c.in_ok-write_events.ensures (c.in_ok-write_nodes.ensures w.nodes w.mails members) c.in_ok-write_verdict.ensures
