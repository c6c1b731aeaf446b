use Rattle.radio_base.specs.Modulus.{modulus_size}
use Rattle.ax_frame.proofs.Fields.{is_of_link}
use Rattle.ax_frame.proofs.HeadFaults.{head_ends}
use Rattle.ax_frame.proofs.Spelled.{reads_only}
use Rattle.ax_frame.proofs.ReadAgain.{behind_answer}
use Rattle.ax_frame.proofs.read.read_behind.Goals as goal

pub behind_head-requires-clause-within : goal.behind_head-requires-clause-within
behind_head-requires-clause-within c = (head_ends c.args.bytes.now c.args.at c.requires.ends).within

pub returns-clause-only : goal.returns-clause-only
returns-clause-only c =
    reads_only (modulus_size c.args.modulus) c.args.at c.args.bytes.now c.behind_head.result c.head_spelling.ensures.without_fault c.frame_spelling.ensures.without_fault c.frame_spelling.ensures.once
    (is_of_link c.args.modulus) c.requires.ends c.behind_head.ensures.found c.behind_head.ensures.refused

pub returns-clause-exact : goal.returns-clause-exact
returns-clause-exact c =
    behind_answer c.frame_spelling.ensures.read (modulus_size c.args.modulus) c.args.at c.args.bytes.now c.behind_head.result (is_of_link c.args.modulus) c.behind_head.ensures.found c.behind_head.ensures.refused
