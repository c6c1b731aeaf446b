-- What the code keeps of the two halves of an end, what it has forgotten, and the bounds of what it keeps.
use Rattle.std.specs.Prelude.{◌≡◌, ℕ, ◌+◌, ◌^◌, ◌<◌, ◌≤◌, Bool, true, false, if◌then◌else◌, List, [], ◌∷◌, ◌++◌, length, Option, Result, Ok, Err, ◌*◌, Some, None}
use Rattle.circuit_reassembly.specs.Fragments.{Fragment, Answer, More, Whole, Too_long}
use Rattle.circuit_reassembly.specs.declared.gather.Oversize.{Oversize}
use Rattle.circuit_l4.specs.declared.piece.Piece.{Piece}
use Rattle.circuit_l4.specs.State.{Sending, bytes_of, fragments_of_all, total, Receiving, Appended, Receipt, inbox, without_first, with_message}

-- of what was written: the messages that aren't wholly acknowledged
pub record Outbox : Type 0 where
  pub queue : List (List ℕ)
  pub done : ℕ  -- how many fragments of the first of them are acknowledged
  pub acked : ℕ
  pub sent : ℕ
  pub wrote : ℕ  -- how many messages were ever written
  pub total : ℕ  -- how many fragments they have

-- it stands for each half in which whole messages were acknowledged before
pub record IsSending (o : Outbox) (s : Sending) : Type 0 where
  pub before : List (List ℕ)
  pub wrote : s.wrote ≡ before ++ o.queue
  pub count : o.wrote ≡ length s.wrote
  pub total : o.total ≡ total s
  pub acked : o.acked ≡ s.acked
  pub sent : o.sent ≡ s.sent
  pub places : s.acked ≡ length (fragments_of_all before) + o.done

-- of what came: the messages that weren't taken
pub record Inbox : Type 0 where
  pub got : ℕ
  pub early : List (Option Piece)
  pub gathered : List ℕ
  pub messages : List (List ℕ)
  pub received : ℕ  -- how many messages ever came whole
  pub nak_sent_for : Option ℕ

-- it stands for each half in which messages were taken before
pub record IsReceiving (i : Inbox) (r : Receiving) : Type 0 where
  pub got : i.got ≡ r.got
  pub early : i.early ≡ r.early
  pub gathered : i.gathered ≡ r.gathered
  pub messages : i.messages ≡ inbox r
  pub count : i.received ≡ length r.received
  pub taken : r.taken ≤ length r.received
  pub nak_sent_for : i.nak_sent_for ≡ r.nak_sent_for

-- the bytes that came and weren't taken
abbrev pub waiting_in : Inbox → ℕ
waiting_in i = bytes_of i.messages + length i.gathered

-- the next fragment may be taken in
pub record Takes (i : Inbox) : Type 0 where
  pub room : waiting_in i < 16384
  pub numbers : i.got < 2 ^ 62

-- a fragment as the code holds it
abbrev pub fragment_in : Piece → Fragment
fragment_in p = (p.text.items, p.more)

-- the answer to a fragment that came: whether the next one expected has to be asked for, or that its message is too long
abbrev pub receipt_answer : Receipt → Result Bool Oversize
receipt_answer c = if c.fits then Ok c.nak else Err (record {})

abbrev pub moved_answer : Appended → Result (Unit {0}) Oversize
moved_answer a = if a.fits then Ok tt else Err (record {})

-- the messages once the next fragment was answered so
abbrev pub with_answer : Answer → List (List ℕ) → List (List ℕ)
with_answer More messages = messages
with_answer (Whole m) messages = with_message m messages
with_answer Too_long messages = messages

-- whether a message came whole that has bytes
abbrev pub whole_answer : Answer → Result Bool Oversize
whole_answer More = Ok false
whole_answer (Whole []) = Ok false
whole_answer (Whole (b ∷ bs)) = Ok true
whole_answer Too_long = Err (record {})

-- the half once a message was taken, or none
abbrev pub take_message : Bool → Receiving → Receiving
take_message true r = without_first r
take_message false r = r

-- the first message, or what stands there
abbrev pub first_or : List ℕ → List (List ℕ) → List ℕ
first_or bytes [] = bytes
first_or bytes (m ∷ ms) = m

-- Bounds of what an end keeps (this project's profile).

-- the octets of fragments that have a place early
abbrev pub early_octets : List (Option Piece) → ℕ
early_octets [] = 0
early_octets (None ∷ early) = early_octets early
early_octets (Some p ∷ early) = length p.text.items + early_octets early

-- what came and wasn't taken, gathered bytes among it, and what came early
pub record IsFew (i : Inbox) : Type 0 where
  pub waits : waiting_in i < 16384 + 236
  pub early : early_octets i.early ≤ 236 * length i.early

-- both halves of an end with this window, which has so many places for what comes early
pub record IsWithin (window : ℕ) (o : Outbox) (i : Inbox) : Type 0 where
  pub queue : bytes_of o.queue ≤ 65536
  pub few : IsFew i
  pub places : length i.early ≡ window
  pub most : window ≤ 127
