-- What is kept of the sendings, and of the information messages that were heeded, as it is read off the notes of a book.
use Rattle.std.specs.Prelude.{◌≡◌, ℕ, ◌+◌, ◌<◌, ◌≤◌, Bool, false, not, ◌&&◌, nat_eq, nat_lt, nat_le, if◌then◌else◌, List, [], ◌∷◌, ◌++◌, length, take, drop, Option, Some, None}
use Rattle.std.specs.List.{AllByRecursion}
use Rattle.std.specs.List.Sorted.{IsNonDecreasingBy}
use Rattle.std.specs.Ordering.{nat_cmp, ordering_then}
use Rattle.std.specs.declared.cmp.Ordering.{Ordering}
use Rattle.std.specs.Cmp.Lexicographic.{pointwise, slice_cmp}
use Rattle.std.specs.BTreeMap as ordered
use Rattle.l3_datagram.specs.declared.datagram.TheConstants.{HEAD_SIZE, TTL_AT}
use Rattle.indexmap.specs.IndexMap.{get}
use Rattle.indexmap.specs.IndexSet.{contains}
use Rattle.circuit_set.specs.Books.{HeardNote, SentNote, first_place, has, is_heard}
use Rattle.circuit_table.specs.Events.{Name, same_name}
use Rattle.circuit_verdict.specs.declared.message.MessageName.{MessageName}
use Rattle.circuit_verdict.specs.declared.sendings.Likeness.{Likeness}
use Rattle.circuit_verdict.specs.declared.message.Message.{Message}
use Rattle.circuit_verdict.specs.declared.sendings.Sending.{Sending}
use Rattle.circuit_verdict.specs.declared.sendings.Sendings.{Sendings}
use Rattle.circuit_verdict.specs.Lists.{list_in}

-- ---- the latest sending ----
-- a datagram without its time to live: what it carries, and then between whom
abbrev pub core : List ℕ → List ℕ
core d = drop HEAD_SIZE d ++ take TTL_AT d

abbrev pub sending_of : SentNote → Sending
sending_of s = record { place = s.place; number = s.number }

abbrev pub sending_in : Option SentNote → Option Sending
sending_in None = None
sending_in (Some s) = Some (sending_of s)

-- the latest sending by an end of a datagram with this core
abbrev pub latest_like : List SentNote → Name → List ℕ → Option Sending
latest_like [] y octets = None
latest_like (s ∷ ss) y octets =
    if same_name s.who y && (nat_le HEAD_SIZE (length s.datagram) && pointwise nat_eq (core s.datagram) octets) then Some (sending_of s)
    else latest_like ss y octets

-- ---- information messages, in the order of their first sendings ----
abbrev pub first_sent : ℕ → ℕ → Message
first_sent number place = record { number = number; first = place }

abbrev pub with_message : Name → Option ℕ → ℕ → List SentNote → Name → List Message → List Message
with_message who None place ss x ms = ms
with_message who (Some n) place ss x ms = if same_name who x && not (has who n ss) then ms ++ first_sent n place ∷ [] else ms

abbrev pub messages_in : List SentNote → Name → List Message
messages_in [] x = []
messages_in (s ∷ ss) x = with_message s.who s.number s.place ss x (messages_in ss x)

-- how many information messages of y were first sent after a place, and were heeded by x
abbrev pub heard_after : List SentNote → List HeardNote → Name → Name → ℕ → ℕ
heard_after ss [] y x place = 0
heard_after ss (h ∷ hs) y x place = (if same_name h.who x && nat_lt place (first_place y h.number ss) then 1 else 0) + heard_after ss hs y x place

-- ---- what holds of the notes of every book ----
-- each sending is later than those before it, and all are before this place
abbrev pub IsInOrder : ℕ → List SentNote → Type 0
IsInOrder place [] = Unit {0}
IsInOrder place (s ∷ ss) = (s.place < place) × IsInOrder s.place ss

abbrev pub HearsOnce : List HeardNote → Type 0
HearsOnce [] = Unit {0}
HearsOnce (h ∷ hs) = (is_heard h.who h.number hs ≡ false) × HearsOnce hs

abbrev pub Rises : List Message → Type 0
Rises ms = IsNonDecreasingBy (λ (m : Message). m.first) ms

abbrev pub AllUpTo : ℕ → List Message → Type 0
AllUpTo place ms = AllByRecursion (λ (m : Message). m.first ≤ place) ms

-- ---- what is kept stands for the notes ----
abbrev pub same_message : MessageName → MessageName → Bool
same_message a b = same_name a.who b.who && nat_eq a.number b.number

abbrev pub message_name : Name → ℕ → MessageName
message_name who number = record { who = who; number = number }

abbrev pub name_cmp : Name → Name → Ordering
name_cmp a b = ordering_then (nat_cmp a.node b.node) (nat_cmp a.id b.id)

abbrev pub likeness_cmp : Likeness → Likeness → Ordering
likeness_cmp a b = ordering_then (name_cmp a.who b.who) (slice_cmp nat_cmp a.octets.items b.octets.items)

pub record SendingsStand (s : Sendings) (place : ℕ) (ss : List SentNote) (hs : List HeardNote) : Type 0 where
  pub latest : (k : Likeness) → ordered.get likeness_cmp s.latest k ≡ latest_like ss k.who k.octets.items
  pub messages : (x : Name) → list_in (get same_name s.messages.lists x) ≡ messages_in ss x
  pub sent : (x : Name) (n : ℕ) → contains same_message s.sent (message_name x n) ≡ has x n ss
  pub heard : (x : Name) (n : ℕ) → contains same_message s.heard (message_name x n) ≡ is_heard x n hs
  pub order : IsInOrder place ss
  pub once : HearsOnce hs
