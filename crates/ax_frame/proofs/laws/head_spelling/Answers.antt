use Rattle.ax_frame.proofs.Spelled.{head_without_fault, head_spelled_once}
use Rattle.ax_frame.proofs.ReadAgain.{spelled_head_is_read}
use Rattle.ax_frame.proofs.laws.head_spelling.Goals as goal

pub returns-clause-without_fault : goal.returns-clause-without_fault
returns-clause-without_fault c = head_without_fault c.address_spelling.ensures.without_fault

pub returns-clause-once : goal.returns-clause-once
returns-clause-once c = head_spelled_once c.address_spelling.ensures.once

pub returns-clause-read : goal.returns-clause-read
returns-clause-read c = spelled_head_is_read c.address_spelling.ensures.without_fault c.address_spelling.ensures.held
