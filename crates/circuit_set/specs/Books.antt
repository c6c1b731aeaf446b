-- What is noted of the events of a run or a trace, the newest first, and what "too late" means of them.
use Rattle.std.specs.Prelude.{◌≡◌, ◌≢◌, ℕ, suc, ◌+◌, ◌<◌, Bool, true, false, not, ◌&&◌, ◌||◌, nat_eq, nat_lt, if◌then◌else◌, List, [], ◌∷◌, ◌++◌, drop, Contains, Option, Some, None, Result, Ok, Err}
use Rattle.ax_address.specs.Callsign.{Callsign, same_call}
use Rattle.l3_datagram.specs.declared.datagram.DatagramHead.{DatagramHead}
use Rattle.l3_datagram.specs.declared.datagram.DatagramRefusal.{DatagramRefusal}
use Rattle.l3_datagram.specs.declared.datagram.TheConstants.{HEAD_SIZE}
use Rattle.l3_datagram.specs.Datagrams.{head_at}
use Rattle.circuit_l4.specs.declared.pair.Pair.{Pair}
use Rattle.circuit_l4.specs.declared.notice.EndNotice.{EndNotice}
use Rattle.circuit_l4.specs.Transports.{pair_at}
use Rattle.circuit_table.specs.Events.{Event, Name, ends_it, is_copy, same_name}
use Rattle.circuit_table.specs.Sets.{CircuitTold, Made, Sent, Heeded, Notice, Gone, Lost, Restarted, same_pair}

pub record MadeNote : Type 0 where
  pub who : Name
  pub own : Callsign
  pub pair : Pair
  pub partner : Option Name  -- of a responder's end: the end whose request has opened it, if there is one
  pub told : List EndNotice

pub record SentNote : Type 0 where
  pub who : Name
  pub place : ℕ
  pub number : Option ℕ
  pub datagram : List ℕ

-- an information message that was heeded, by the number of its latest sending; each once
pub record HeardNote : Type 0 where
  pub who : Name
  pub number : ℕ

pub record Book : Type 0 where
  pub places : ℕ  -- how many events there were
  pub made : List MadeNote
  pub sent : List SentNote
  pub heard : List HeardNote

abbrev pub empty : Book
empty = record { places = 0; made = []; sent = []; heard = [] }

-- ---- partners ----
abbrev pub is_some_name : Option Name → Name → Bool
is_some_name None x = false
is_some_name (Some y) x = same_name y x

abbrev pub first_name : Option Name → Option Name → Option Name
first_name (Some x) other = Some x
first_name None other = other

-- the partner that stands in x's own note, or the end in whose note x stands
abbrev pub partner_in : List MadeNote → Name → Option Name
partner_in [] x = None
partner_in (m ∷ ms) x =
    if is_some_name m.partner x then Some m.who
    else first_name (if same_name m.who x then m.partner else None) (partner_in ms x)

abbrev pub partner : Book → Name → Option Name
partner b x = partner_in b.made x

-- the end that this node has made last with this pair
abbrev pub made_last : List MadeNote → Callsign → Pair → Option Name
made_last [] own pair = None
made_last (m ∷ ms) own pair = if same_call m.own own && same_pair m.pair pair then Some m.who else made_last ms own pair

-- it has sent a copy of this
abbrev pub has_sent : List SentNote → Name → List ℕ → Bool
has_sent [] x d = false
has_sent (s ∷ ss) x d = (same_name s.who x && is_copy d s.datagram) || has_sent ss x d

abbrev pub is_unknown : Option Name → Bool
is_unknown None = true
is_unknown (Some x) = false

abbrev pub if_asked : Book → List ℕ → Option Name → Option Name
if_asked b d None = None
if_asked b d (Some x) = if has_sent b.sent x d && is_unknown (partner b x) then Some x else None

abbrev pub asked_by : Book → List ℕ → Result DatagramHead DatagramRefusal → Option Name
asked_by b d (Err e) = None
asked_by b d (Ok head) = if_asked b d (made_last b.made head.origin (pair_at 0 (drop HEAD_SIZE d)))

-- The end whose request this datagram is. No end was opened for it before: an end that has sent a request was opened by none, so
-- that it has no partner says the same.
abbrev pub requester : Book → Option (List ℕ) → Option Name
requester b None = None
requester b (Some d) = asked_by b d (head_at d)

-- a request has opened it
abbrev pub was_asked : List MadeNote → Name → Bool
was_asked [] x = false
was_asked (m ∷ ms) x = (same_name m.who x && not (is_unknown m.partner)) || was_asked ms x

-- ---- the latest sending ----
abbrev pub latest_in : List SentNote → Name → List ℕ → Option SentNote
latest_in [] y d = None
latest_in (s ∷ ss) y d = if same_name s.who y && is_copy d s.datagram then Some s else latest_in ss y d

abbrev pub latest_by : Book → Option Name → List ℕ → Option SentNote
latest_by b None d = None
latest_by b (Some y) d = latest_in b.sent y d

-- of what has come to x: the latest sending by its partner of which it is a copy
abbrev pub latest_to : Book → Name → List ℕ → Option SentNote
latest_to b x d = latest_by b (partner b x) d

-- ---- overtakers ----
abbrev pub is_number : Option ℕ → ℕ → Bool
is_number None n = false
is_number (Some m) n = nat_eq m n

abbrev pub sends : Name → ℕ → SentNote → Bool
sends x n s = same_name s.who x && is_number s.number n

abbrev pub has : Name → ℕ → List SentNote → Bool
has x n [] = false
has x n (s ∷ ss) = sends x n s || has x n ss

-- the place of the first sending of fragment n by x
abbrev pub first_place : Name → ℕ → List SentNote → ℕ
first_place x n [] = 0
first_place x n (s ∷ ss) = if has x n ss then first_place x n ss else (if sends x n s then s.place else 0)

-- of a sending at place i by y, and an arrival at its partner x now: information messages of either direction that were first
-- sent after it, and first heeded before now
abbrev pub overtakes : Name → Name → ℕ → List SentNote → HeardNote → Bool
overtakes y x i ss h = (same_name h.who x && nat_lt i (first_place y h.number ss)) || (same_name h.who y && nat_lt i (first_place x h.number ss))

abbrev pub overtakers : Name → Name → ℕ → List SentNote → List HeardNote → ℕ
overtakers y x i ss [] = 0
overtakers y x i ss (h ∷ hs) = (if overtakes y x i ss h then 1 else 0) + overtakers y x i ss hs

-- ---- noting ----
abbrev pub with_notice : Name → EndNotice → List MadeNote → List MadeNote
with_notice x n [] = []
with_notice x n (m ∷ ms) = (if same_name m.who x then record m { told = m.told ++ n ∷ [] } else m) ∷ with_notice x n ms

abbrev pub is_heard : Name → ℕ → List HeardNote → Bool
is_heard x n [] = false
is_heard x n (h ∷ hs) = (same_name h.who x && nat_eq n h.number) || is_heard x n hs

abbrev pub heard_number : Name → Option ℕ → List HeardNote → List HeardNote
heard_number x None hs = hs
heard_number x (Some n) hs = if is_heard x n hs then hs else record { who = x; number = n } ∷ hs

abbrev pub heard_sending : Name → Option SentNote → List HeardNote → List HeardNote
heard_sending x None hs = hs
heard_sending x (Some s) hs = heard_number x s.number hs

abbrev pub note_told : Book → ℕ → Callsign → CircuitTold → Book
note_told b node own (Made id pair at request) =
    let who : Name = record { node = node; id = id } in
    record b {
      places = suc b.places;
      made = record { who = who; own = own; pair = pair; partner = requester b request; told = [] } ∷ b.made;
    }
note_told b node own (Sent id number d) =
    let who : Name = record { node = node; id = id } in
    record b { places = suc b.places; sent = record { who = who; place = b.places; number = number; datagram = d } ∷ b.sent }
note_told b node own (Heeded id d) =
    record b { places = suc b.places; heard = heard_sending (record { node = node; id = id }) (latest_to b (record { node = node; id = id }) d) b.heard }
note_told b node own (Notice id n) = record b { places = suc b.places; made = with_notice (record { node = node; id = id }) n b.made }
note_told b node own (Gone id facts) = record b { places = suc b.places }
note_told b node own (Restarted pair) = record b { places = suc b.places }
note_told b node own (Lost id facts) = record b { places = suc b.places }

abbrev pub with_event : Book → Event → Book
with_event b e = note_told b e.node e.own e.told

abbrev pub with_events : Book → List Event → Book
with_events b [] = b
with_events b (e ∷ es) = with_events (with_event b e) es

-- ---- too late ----
-- `allow` is how many overtakers are too many at an end

-- of what an end heeds: a copy of one that its partner has sent, and the latest such sending has fewer than so many overtakers
abbrev pub TimelyTo : (Book → Name → ℕ) → Book → Name → List ℕ → Type 0
TimelyTo allow b x d =
    (y : Name)
    × (s : SentNote)
    × (partner b x ≡ Some y)
    × (latest_in b.sent y d ≡ Some s)
    × (overtakers y x s.place b.sent b.heard < allow b x)

abbrev pub TimelyTold : (Book → Name → ℕ) → Book → ℕ → CircuitTold → Type 0
TimelyTold allow b node (Heeded id d) = TimelyTo allow b (record { node = node; id = id }) d
TimelyTold allow b node _ = Unit {0}

abbrev pub Timely : (Book → Name → ℕ) → Book → List Event → Type 0
Timely allow b [] = Unit {0}
Timely allow b (e ∷ es) = TimelyTold allow b e.node e.told × Timely allow (with_event b e) es

abbrev pub any_ends : List EndNotice → Bool
any_ends [] = false
any_ends (n ∷ ns) = ends_it n || any_ends ns

abbrev pub is_lost : List Name → Name → Bool
is_lost [] x = false
is_lost (y ∷ ys) x = same_name y x || is_lost ys x

-- no end of another node that has neither ended nor been lost has a partner at this node with this pair
abbrev pub NoOther : Book → List Name → ℕ → Pair → Type 0
NoOther b lost node pair =
    (m q : MadeNote) → Contains b.made m → Contains b.made q
    → any_ends m.told ≡ false → is_lost lost m.who ≡ false → m.who.node ≢ node
    → partner b m.who ≡ Some q.who → q.who.node ≡ node → q.pair ≡ pair → ⊥

-- judged by what stood before: an end that is opened by a request has a partner, and its pair names no other end
abbrev pub HasRequester : Book → Option (List ℕ) → Type 0
HasRequester b None = Unit {0}
HasRequester b (Some d) = (x : Name) × (requester b (Some d) ≡ Some x)

abbrev pub FreshTold : Book → List Name → ℕ → CircuitTold → Type 0
FreshTold b lost node (Made id pair at request) = HasRequester b request × NoOther b lost node pair
FreshTold b lost node _ = Unit {0}

abbrev pub lost_with : List Name → ℕ → CircuitTold → List Name
lost_with lost node (Lost id facts) = record { node = node; id = id } ∷ lost
lost_with lost node _ = lost

-- the ends that restarts took away
abbrev pub lost_in : List Name → List Event → List Name
lost_in lost [] = lost
lost_in lost (e ∷ es) = lost_in (lost_with lost e.node e.told) es

abbrev pub FreshFrom : Book → List Name → List Event → Type 0
FreshFrom b lost [] = Unit {0}
FreshFrom b lost (e ∷ es) = FreshTold b lost e.node e.told × FreshFrom (with_event b e) (lost_with lost e.node e.told) es

abbrev pub Fresh : Book → List Event → Type 0
Fresh b es = FreshFrom b [] es
