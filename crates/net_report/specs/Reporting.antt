-- What the writing of a report goes by. No public clause cites it: not for the reader of a contract.
use Rattle.std.specs.Prelude.{ℕ, List}
use Rattle.net_model.specs.declared.ends.EndRecord.{EndRecord}
use Rattle.net_model.specs.declared.events.NumberedEvent.{NumberedEvent}
use Rattle.net_model.specs.Ends.{ends_at}
use Rattle.net_model.specs.Events.{numbered_of}
use Rattle.net_report.specs.Reports.{told_text}
use Rattle.net_model.specs.Standing.{Left}

-- the ends that the node of a number ever made, as they are kept
abbrev pub ends_left : Left → ℕ → List EndRecord
ends_left left node = ends_at node left.ends

-- what is written of an event that is left
abbrev pub text_left : Left → NumberedEvent → List ℕ
text_left left e = told_text left.air (ends_left left) (numbered_of e)
