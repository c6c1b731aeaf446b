use Rattle.net_report.specs.Reporting.{ends_left}
use Rattle.net_report.specs.Reports.{kept_text}
use Rattle.net_model.specs.Traces.{left_of}
use Rattle.net_report.proofs.Texts.{kept_joined}
use Rattle.net_report.proofs.reports.+write_nodes.Goals as goal

pub returns-in_ok-write_nodes-in-len1-up : goal.returns-in_ok-write_nodes-in-len1-up
returns-in_ok-write_nodes-in-len1-up t c = λ placed kept stand.
    kept_joined (kept_text (ends_left (left_of c.args.trace.now))) c.args.members.now c.first-item.result placed kept c.args.text.now c.write_node.new.text c.write_nodes.new.text
    c.in-len1-up.len_at_least c.first-item.is stand
    c.in_ok-write_node-in-len1-up.ensures c.in_ok-write_nodes-in-len1-up.ensures
