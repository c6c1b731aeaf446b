-- What there is to tell of a replay, as plain data. Own profile.
use Rattle.std.specs.Prelude.{ℕ, List}
use Rattle.ax_address.specs.Callsign.{Callsign}
use Rattle.circuit_l4.specs.declared.facts.EndFacts.{EndFacts}
use Rattle.circuit_l4.specs.declared.pair.Pair.{Pair}
use Rattle.circuit_table.specs.Pumps.{Of}
use Rattle.circuit_table.specs.Sets as sets
use Rattle.node_model.specs.States as nodes
use Rattle.node_core.specs.Standing.{entry_of}
use Rattle.net_model.specs.declared.events.Event as code
use Rattle.net_model.specs.declared.events.Event.TheVariants as variants
use Rattle.net_model.specs.declared.events.NumberedEvent as numbered
use Rattle.net_model.specs.declared.refusals.LineRefusal.{LineRefusal}
use Rattle.net_model.specs.Tables.{Table}

-- What the node of a number tells; that a frame was put in the air, goes to a node, or is settled since it is lost; a table that was
-- shown; a message that was taken, and how many of a burst were written; that a node started again, and that this took an end away;
-- and why an act wasn't done; that a mail was posted, offered at an end, is stored, or is settled.
pub data Event : Type 0 where
  Entry : (node : ℕ) (entry : nodes.Entry) → Event
  InAir : (frame : ℕ) → Event
  Delivered : (frame node : ℕ) → Event
  Settled : (frame : ℕ) → Event
  Shown : Table → Event
  Took : (node end : ℕ) (message : List ℕ) → Event
  Wrote : (node end count : ℕ) → Event
  Restarted : (node : ℕ) (pair : Pair) → Event
  Lost : (node end : ℕ) (facts : EndFacts) → Event
  Refused : LineRefusal → Event
  Posted : (node number : ℕ) → Event
  Offered : (node end number : ℕ) → Event
  MailStored : (node : ℕ) (origin : Callsign) (number : ℕ) (to : Callsign) (len : ℕ) → Event
  MailSettled : (node number : ℕ) → Event

-- with the number of the line at which it came, from 1
pub record NumberedEvent : Type 0 where
  pub line : ℕ
  pub event : Event

-- ---- the same as the code hands it out

abbrev pub event_of : code.Event → Event
event_of (variants.Entry node entry) = Entry node (entry_of entry.value)
event_of (variants.Sent node sent) = Entry node (nodes.Of_set (Of (sets.Sent sent.value.datagram.id sent.value.number sent.value.datagram.octets.items)))
event_of (variants.Heeded node heeded) = Entry node (nodes.Of_set (Of (sets.Heeded heeded.value.id heeded.value.octets.items)))
event_of (variants.InAir frame) = InAir frame
event_of (variants.Delivered frame node) = Delivered frame node
event_of (variants.Settled frame) = Settled frame
event_of (variants.Shown table) = Shown table.value
event_of (variants.Took node end message) = Took node end message.value.items
event_of (variants.Wrote node end count) = Wrote node end count
event_of (variants.Restarted node pair) = Restarted node pair
event_of (variants.Lost node end) = Lost node end.value.id end.value.facts
event_of (variants.Refused why) = Refused why
event_of (variants.Posted node number) = Posted node number
event_of (variants.Offered node offer) = Offered node offer.value.id offer.value.number
event_of (variants.MailStored node mail) = MailStored node mail.value.origin mail.value.number mail.value.to mail.value.len
event_of (variants.MailSettled node number) = MailSettled node number

abbrev pub numbered_of : numbered.NumberedEvent → NumberedEvent
numbered_of e = record { line = e.line; event = event_of e.event }
