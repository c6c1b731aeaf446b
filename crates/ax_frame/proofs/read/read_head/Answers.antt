use Rattle.ax_frame.proofs.Spelled.{reads_head_only}
use Rattle.ax_frame.proofs.ReadAgain.{head_answer}
use Rattle.ax_frame.proofs.read.read_head.Goals as goal

pub returns-clause-only : goal.returns-clause-only
returns-clause-only c =
    reads_head_only c.args.bytes.now c.head_of.result c.head_spelling.ensures.without_fault c.head_spelling.ensures.once c.head_of.ensures.found c.head_of.ensures.judged

pub returns-clause-exact : goal.returns-clause-exact
returns-clause-exact c = head_answer c.head_spelling.ensures.read c.args.bytes.now c.head_of.result c.head_of.ensures.found c.head_of.ensures.judged
