use Rattle.ax_frame.proofs.Spelled.{spelled_without_fault, spelled_once}
use Rattle.ax_frame.proofs.ReadAgain.{spelled_is_read}
use Rattle.ax_frame.proofs.laws.frame_spelling.Goals as goal

pub returns-clause-without_fault : goal.returns-clause-without_fault
returns-clause-without_fault c = spelled_without_fault c.address_spelling.ensures.without_fault

pub returns-clause-once : goal.returns-clause-once
returns-clause-once c = spelled_once c.address_spelling.ensures.without_fault c.address_spelling.ensures.once

pub returns-clause-read : goal.returns-clause-read
returns-clause-read c = spelled_is_read c.address_spelling.ensures.without_fault c.address_spelling.ensures.held
