use Rattle.std.proofs.Common.{arith}
use Rattle.node_core.proofs.FirstLine.{done_lf, done_no_lf, done_return, done_whole}
use Rattle.node_core.proofs.sessions.lines.line_size.Goals as goal

pub returns-then-end-text-clause-behind : goal.returns-then-end-text-clause-behind
returns-then-end-text-clause-behind c = done_whole c.args.text.now c.line_end-end.result c.line_end-end.ensures.value c.if-end-text.true

pub returns-then-end-text-2-clause-behind : goal.returns-then-end-text-2-clause-behind
returns-then-end-text-2-clause-behind c = done_return c.args.text.now c.line_end-end.result c.line_end-end.ensures.value c.if-end-text-2.true

pub returns-then-text-end-eq10-clause-behind : goal.returns-then-text-end-eq10-clause-behind
returns-then-text-end-eq10-clause-behind c =
    done_lf c.args.text.now c.line_end-end.result c.line_end-end.ensures.value (omega (arith, c.line_end-end.ensures.most, c.if-end-text.false, c.if-end-text-2.false)) c.if-text-end-eq10.true

pub returns-else-text-end-eq10-clause-behind : goal.returns-else-text-end-eq10-clause-behind
returns-else-text-end-eq10-clause-behind c =
    done_no_lf c.args.text.now c.line_end-end.result c.line_end-end.ensures.value (omega (arith, c.line_end-end.ensures.most, c.if-end-text.false, c.if-end-text-2.false)) c.if-text-end-eq10.false
