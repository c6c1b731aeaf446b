use Rattle.text_lines.proofs.UserLines.{takes_first}
use Rattle.node_core.proofs.sessions.lines.first_line.Goals as goal

pub returns : goal.returns
returns c = rw c.line_end.ensures.value (takes_first c.args.text.now)
