use Rattle.net_report.specs.Reporting.{ends_left}
use Rattle.net_report.specs.Reports.{facts_of}
use Rattle.net_model.specs.Traces.{left_of}
use Rattle.net_report.proofs.Texts.{nodes_joined}
use Rattle.net_report.proofs.soak.+add_nodes.Goals as goal

pub returns-in_ok-add_nodes-in-len1-up : goal.returns-in_ok-add_nodes-in-len1-up
returns-in_ok-add_nodes-in-len1-up t c = λ placed kept stand.
    nodes_joined (facts_of (ends_left (left_of c.args.trace.now))) c.args.members.now c.first-item.result placed kept c.args.ends.now.items c.add_node.new.ends.items c.add_nodes.new.ends.items
    c.in-len1-up.len_at_least c.first-item.is stand
    c.in_ok-add_node-in-len1-up.ensures c.in_ok-add_nodes-in-len1-up.ensures
