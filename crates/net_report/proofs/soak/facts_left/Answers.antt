use Rattle.std.proofs.Common.{List, sym, subst}
use Rattle.net_model.specs.declared.members.Member.{Member}
use Rattle.net_model.specs.Standing.{MembersStand}
use Rattle.net_model.specs.Traces.{left_of}
use Rattle.net_report.proofs.Soaking.{facts_joined}
use Rattle.net_report.proofs.soak.facts_left.Goals as goal

pub returns : goal.returns
returns c = λ w trace.
    let members : MembersStand c.members.result.now w.nodes w.mails = subst (λ (ms : List Member). MembersStand ms w.nodes w.mails) (sym c.members.ensures) trace.members in
    facts_joined (left_of c.args.trace.now) w c.new-ends.result.items c.add_nodes.new.ends.items trace c.new-ends.ensures.items
    (c.in_ok-add_nodes.ensures w.nodes w.mails members)
