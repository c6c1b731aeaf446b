-- The fields of the receiving half. No public clause cites it: not for the reader of a contract.
use Rattle.std.specs.Prelude.{◌≡◌, ◌+◌, ◌^◌, ◌<◌, ◌≤◌, List, [], ◌∷◌, length, Option, Some, None}
use Rattle.circuit_l4.specs.declared.incoming.Incoming.TheInside.{Inside}
use Rattle.circuit_l4.specs.declared.piece.Piece.{Piece}
use Rattle.circuit_l4.specs.Halves.{Inbox, waiting_in}

-- what they keep
abbrev pub inbox_of : Inside → Inbox
inbox_of i =
    record {
      got = i.got;
      early = i.early.items;
      gathered = i.gather.held;
      messages = i.inbox.messages;
      received = i.received;
      nak_sent_for = i.nak_sent_for;
    }

-- each fragment that has a place early has at most 236 bytes
abbrev pub AreSmall : List (Option Piece) → Type 0
AreSmall [] = Unit {0}
AreSmall (None ∷ early) = AreSmall early
AreSmall (Some p ∷ early) = (length p.text.items ≤ 236) × AreSmall early

-- what always holds of them: every place for an early fragment is there, each early fragment is short, so many bytes wait,
-- and a message that was handed up is let go of
pub record IsInbox (i : Inside) : Type 0 where
  pub places : length i.early.items ≡ i.early.capacity
  pub small : AreSmall i.early.items
  pub room : i.inbox.room ≡ 16384 + 236
  pub let_go : i.gather.buffer ≡ i.gather.held
  pub waits : i.waiting ≡ waiting_in (inbox_of i)
  pub most : i.waiting < 16384 + 236
  pub numbers : i.got ≤ 2 ^ 62
  pub count : i.received ≤ i.got
