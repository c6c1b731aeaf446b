use Rattle.net_report.specs.Reporting.{ends_left}
use Rattle.trace_lines.specs.Left.{kept_trace}
use Rattle.net_model.specs.Traces.{left_of}
use Rattle.net_report.proofs.Texts.{kept_joined}
use Rattle.trace_lines.proofs.left.+write_nodes.Goals as goal

pub returns-in_ok-write_nodes-in-len1-up : goal.returns-in_ok-write_nodes-in-len1-up
returns-in_ok-write_nodes-in-len1-up t c = λ placed kept stand.
    kept_joined (kept_trace (ends_left (left_of c.args.trace.now))) c.args.members.now c.first-item.result placed kept c.args.out.now c.write_node.new.out c.write_nodes.new.out
    c.in-len1-up.len_at_least c.first-item.is stand
    c.in_ok-write_node-in-len1-up.ensures c.in_ok-write_nodes-in-len1-up.ensures
