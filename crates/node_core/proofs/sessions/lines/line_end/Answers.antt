use Rattle.text_lines.proofs.UserLines.{ends_found, ends_nowhere}
use Rattle.node_core.proofs.sessions.lines.line_end.Goals as goal

pub returns-in-Some-clause-value : goal.returns-in-Some-clause-value
returns-in-Some-clause-value c = ends_found c.args.text.now c.in-Some.end c.in-Some.ensures.place

pub returns-in-None-clause-value : goal.returns-in-None-clause-value
returns-in-None-clause-value c = ends_nowhere c.args.text.now c.in-None.ensures.place
