-- Runs of nodes that hand mail to each other: whatever is written may be heard, often, late, out of order, or never. Mail is stored once
-- in each. Own profile.
use Rattle.std.specs.Prelude.{ℕ, ◌≡◌, List, [], ◌∷◌, ◌++◌, slice_get, Bool, Option, Some, None, if◌then◌else◌}
use Rattle.std.specs.List.{AllByRecursion}
use Rattle.ax_address.specs.Callsign.{Callsign, IsCallsign, same_call}
use Rattle.node_mail.specs.Wires.{Wire, wire_octets}
use Rattle.node_mail.specs.Lists.{Lists, Letter, nothing_kept, letter_of, offer, post_step, hear_at, hear_step, answer_to}
use Rattle.node_mail.specs.MailOnce.{MailOnce}

-- a message that was written, by the node `writer` to the node `addressee`
pub record Written : Type 0 where
  pub writer : Callsign
  pub addressee : Callsign
  pub octets : List ℕ

-- where a run has come to: each node with the mail that it keeps, None for a node without a store, and all messages
-- that were ever written
pub record MailRun : Type 0 where
  pub store_of : Callsign → Option Lists
  pub written : List Written

-- what may happen
pub data Event : Type 0 where
  -- a user posts a mail at a node
  Posts : (node to dest : Callsign) → (text : List ℕ) → Event
  -- a node writes a queued mail to its destination
  Writes : (node : Callsign) → (number : ℕ) → Event
  -- a node without a store writes anything to any node
  Says : (node to : Callsign) → (octets : List ℕ) → Event
  -- the addressee of a message hears it, and its answer is written or dropped
  Hears : (which : ℕ) → (answered : Bool) → Event

-- calls of users are calls
abbrev pub IsEvent : Event → Type 0
IsEvent (Posts node to dest text) = IsCallsign to.letters to.ssid
IsEvent (Writes node number) = Unit {0}
IsEvent (Says node to octets) = Unit {0}
IsEvent (Hears which answered) = Unit {0}

abbrev pub with_store : MailRun → Callsign → Lists → MailRun
with_store w node s = record w { store_of = λ c. if same_call c node then Some s else w.store_of c }

abbrev pub with_written : MailRun → Callsign → Callsign → List ℕ → MailRun
with_written w writer addressee octets =
    record w { written = w.written ++ record { writer = writer; addressee = addressee; octets = octets } ∷ [] }

abbrev pub posts : MailRun → Callsign → Callsign → Callsign → List ℕ → Option Lists → MailRun
posts w node to dest text None = w
posts w node to dest text (Some s) = with_store w node (post_step s to dest text)

abbrev pub writes_letter : MailRun → Callsign → Option Letter → MailRun
writes_letter w node None = w
writes_letter w node (Some l) = with_written w node l.dest (wire_octets (offer l))

abbrev pub writes : MailRun → Callsign → ℕ → Option Lists → MailRun
writes w node number None = w
writes w node number (Some s) = writes_letter w node (letter_of number s.queued)

abbrev pub says : MailRun → Callsign → Callsign → List ℕ → Option Lists → MailRun
says w node to octets None = with_written w node to octets
says w node to octets (Some s) = w

abbrev pub answers : MailRun → Written → Bool → Option Wire → MailRun
answers w m answered None = w
answers w m answered (Some wire) = if answered then with_written w m.addressee m.writer (wire_octets wire) else w

abbrev pub hears_by : MailRun → Bool → Written → Option Lists → MailRun
hears_by w answered m None = w
hears_by w answered m (Some s) =
    answers (with_store w m.addressee (hear_step s m.writer m.octets)) m answered (answer_to (hear_at s m.writer m.octets))

abbrev pub hears : MailRun → Bool → Option Written → MailRun
hears w answered None = w
hears w answered (Some m) = hears_by w answered m (w.store_of m.addressee)

abbrev pub happens : MailRun → Event → MailRun
happens w (Posts node to dest text) = posts w node to dest text (w.store_of node)
happens w (Writes node number) = writes w node number (w.store_of node)
happens w (Says node to octets) = says w node to octets (w.store_of node)
happens w (Hears which answered) = hears w answered (slice_get w.written which)

-- the nodes that pass the test have a store, in which nothing is kept
abbrev pub begin : (Callsign → Bool) → MailRun
begin has_store = record { store_of = λ c. if has_store c then Some (nothing_kept c) else None; written = [] }

abbrev pub run : List Event → MailRun → MailRun
run [] w = w
run (e ∷ es) w = run es (happens w e)

-- of all nodes with a store
abbrev pub HoldsMailOnce : MailRun → Type 0
HoldsMailOnce w =
    (origin dest : Callsign) (from at : Lists) →
    w.store_of origin ≡ Some from → w.store_of dest ≡ Some at → MailOnce origin dest from at

abbrev pub MailIsStoredOnce : Type 0
MailIsStoredOnce =
    (has_store : Callsign → Bool) (events : List Event) →
    AllByRecursion IsEvent events → HoldsMailOnce (run events (begin has_store))
