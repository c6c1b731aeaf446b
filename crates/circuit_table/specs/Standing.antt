-- What a node's code holds of its ends, and which states of their machine it stands for: the machine keeps ends that are gone, too, and
-- tells at once what the code fetches from its ends one after another.
use Rattle.std.specs.Prelude.{◌≡◌, ℕ, zero, suc, min, ◌+◌, ◌*◌, ◌^◌, ◌-◌, ◌≤◌, ◌⊎◌, Bool, true, false, ◌||◌, ◌&&◌, if◌then◌else◌, List, [], ◌∷◌, ◌++◌, length, slice_get, nat_eq, nat_lt, Option, Some, None, is_some, Result, Ok, Err}
use Rattle.std.specs.Option.{option_map}
use Rattle.std.specs.Map.{remove_entry, set_value}
use Rattle.ax_address.specs.Callsign.{Callsign}
use Rattle.l3_datagram.specs.Datagrams.{octets_with}
use Rattle.circuit_l4.specs.declared.phase.EndPhase.{EndPhase}
use Rattle.circuit_l4.specs.declared.phase.EndPhase.TheVariants.{Connecting}
use Rattle.circuit_l4.specs.declared.pair.Pair.{Pair}
use Rattle.circuit_l4.specs.declared.transport.Transport.{Transport}
use Rattle.circuit_l4.specs.State.{Effect, Out, State, inbox}
use Rattle.circuit_l4.specs.declared.refusal.WriteRefusal.{WriteRefusal}
use Rattle.circuit_l4.specs.Table as end
use Rattle.circuit_l4.specs.Halves.{first_or}
use Rattle.circuit_l4.specs.Opening.{facts_of}
use Rattle.circuit_table.specs.declared.refusal.SetRefusal.{SetRefusal}
use Rattle.circuit_table.specs.declared.refusal.SetRefusal.TheVariants as set_refusal
use Rattle.circuit_table.specs.declared.refusal.DiscardRefusal.{DiscardRefusal}
use Rattle.circuit_table.specs.declared.refusal.DiscardRefusal.TheVariants as discard_refusal
use Rattle.circuit_table.specs.declared.refusal.NoEnd.{NoEnd}
use Rattle.circuit_l4.specs.Standing.{IsDrained, EndView, Stands, StandsFor}
use Rattle.circuit_l4.specs.Transports.{transport_octets}
use Rattle.circuit_table.specs.declared.event.SetEvent.{SetEvent}
use Rattle.circuit_table.specs.declared.event.SetEvent.TheVariants as event
use Rattle.circuit_table.specs.declared.holder.Holder.{Holder}
use Rattle.circuit_table.specs.declared.untold.Untold.{Untold}
use Rattle.circuit_table.specs.declared.untold.Untold.TheVariants as untold
use Rattle.circuit_table.specs.declared.held_ends.HeldEnds.{HeldEnds}
use Rattle.indexmap.specs.IndexMap.{insert_entry}
use Rattle.indexmap.specs.IndexMap.{set_value_at}
use Rattle.circuit_table.specs.Pairs.{pair_after}
use Rattle.circuit_table.specs.Sets as sets
use Rattle.circuit_table.specs.Sets.{SetState, CircuitTold, is_over, notices, heeds}
use Rattle.circuit_table.specs.Pumps.{SetTold, Of, Dropped, Lost, is_empty}

-- ---- what is told ----
abbrev pub event_told : SetEvent → SetTold
event_told (event.Made id pair partner request) = Of (sets.Made id pair partner (option_map (λ d. d.items) request))
event_told (event.Sent id number datagram) = Of (sets.Sent id number datagram.items)
event_told (event.Heeded id datagram) = Of (sets.Heeded id datagram.items)
event_told (event.Notice id notice) = Of (sets.Notice id notice)
event_told (event.Dropped routed) = Dropped routed
event_told (event.Lost call) = Lost call
event_told (event.Gone id facts) = Of (sets.Gone id facts)

-- a transport to a node, in a datagram of the node that has this call, over so many hops at most
abbrev pub datagram_by : Callsign → ℕ → Callsign → Transport → List ℕ
datagram_by own ttl to t = octets_with (record { origin = own; dest = to; ttl = ttl }) (transport_octets t)

abbrev pub sendings_by : Callsign → ℕ → ℕ → Callsign → List Out → List CircuitTold
sendings_by own ttl id to [] = []
sendings_by own ttl id to (o ∷ os) = sets.Sent id o.1 (datagram_by own ttl to o.0) ∷ sendings_by own ttl id to os

-- what stands for this in the machine: a sending is one that was put out, and isn't told before
abbrev pub told_by_end : SetEvent → Option CircuitTold
told_by_end (event.Made id pair partner request) = Some (sets.Made id pair partner (option_map (λ d. d.items) request))
told_by_end (event.Heeded id datagram) = Some (sets.Heeded id datagram.items)
told_by_end (event.Notice id notice) = Some (sets.Notice id notice)
told_by_end (event.Gone id facts) = Some (sets.Gone id facts)
told_by_end (event.Sent id number datagram) = None
told_by_end (event.Dropped routed) = None
told_by_end (event.Lost call) = None

abbrev pub told_for : Callsign → ℕ → Untold → Option CircuitTold
told_for own ttl (untold.Event e) = told_by_end e
told_for own ttl (untold.Out id number to t) = Some (sets.Sent id number (datagram_by own ttl to t))

-- ---- one end ----
abbrev pub if_so : Bool → CircuitTold → List CircuitTold
if_so true t = t ∷ []
if_so false t = []

-- an end of the machine that has come to g: what is told of it goes on from what waits in the code's end
abbrev pub of_holder : ℕ → Holder → Effect → sets.Holder
of_holder id k g = record { id = id; at = k.at; asked = k.asked; end = g.end; gone = k.discarded || is_over g.end }

abbrev pub untold_of : Callsign → ℕ → ℕ → Holder → Effect → List CircuitTold
untold_of own ttl id k g =
    if_so k.unannounced (sets.Made id k.pair k.at None)
    ++ sendings_by own ttl id k.at g.outs
    ++ notices id g.notes
    ++ if_so (k.discarded || is_over g.end) (sets.Gone id (facts_of g.end))

-- a count stands still at its type's end
abbrev pub capped_count : ℕ → ℕ
capped_count n = min n (2 ^ 64 - 1)

abbrev pub is_connecting : EndPhase → Bool
is_connecting Connecting = true
is_connecting _ = false

-- it has met its partner, which has this pair
abbrev pub Met : Pair → State → Type 0
Met p s = (is_connecting s.phase ≡ false) × (s.to ≡ p)

-- an end that a request with a pair has opened has met its partner, which has that pair
abbrev pub MetBy : Option Pair → State → Type 0
MetBy None s = Unit {0}
MetBy (Some p) s = Met p s

-- the code's end stands for this one of the machine, of which this is untold
pub record Keeps (own : Callsign) (ttl id : ℕ) (k : Holder) (h : sets.Holder) (told : List CircuitTold) : Type 0 where
  pub going : Effect
  pub stands : Stands k.end going
  pub is : h ≡ of_holder id k going
  pub pair : going.end.pair ≡ k.pair
  pub taken : k.taken ≡ capped_count going.end.receiving.taken
  pub met : MetBy k.asked going.end
  pub untold : told ≡ untold_of own ttl id k going

-- it is told that an end is gone: the last that is told of it
abbrev pub is_last : Untold → Bool
is_last (untold.Event (event.Gone id facts)) = true
is_last _ = false

-- the same, where something is told
abbrev pub is_last_of : Option Untold → Bool
is_last_of None = false
is_last_of (Some u) = is_last u

-- what is left untold of an end once this was told
abbrev pub Leaves : Callsign → ℕ → ℕ → sets.Holder → Holder → List CircuitTold → Bool → Type 0
Leaves own ttl id h k rest true = (rest ≡ []) × (h.gone ≡ true)
Leaves own ttl id h k rest false = Keeps own ttl id k h rest

-- the first thing that is untold of an end is told
abbrev pub Tells : Callsign → ℕ → ℕ → sets.Holder → Untold → Holder → List CircuitTold → Type 0
Tells own ttl id h u k told =
    (t : CircuitTold) × (rest : List CircuitTold) × (told ≡ t ∷ rest) × (told_for own ttl u ≡ Some t) × Leaves own ttl id h k rest (is_last u)

-- ---- all ends ----
-- an end that is gone, and of which all is told
pub record Past (Rest : List (ℕ × Holder) → List CircuitTold → Type 0) (h : sets.Holder) (es : List (ℕ × Holder)) (told : List CircuitTold) : Type 0 where
  pub gone : h.gone ≡ true
  pub others : Rest es told

-- an end that is held
pub record Here (own : Callsign) (ttl : ℕ) (Rest : List (ℕ × Holder) → List CircuitTold → Type 0) (h : sets.Holder) (es : List (ℕ × Holder)) (told : List CircuitTold) : Type 0 where
  pub k : Holder
  pub rest : List (ℕ × Holder)
  pub mine : List CircuitTold
  pub theirs : List CircuitTold
  pub is : es ≡ (h.id, k) ∷ rest
  pub both : told ≡ mine ++ theirs
  pub keeps : Keeps own ttl h.id k h mine
  pub others : Rest rest theirs

-- end by end, with numbers from lo on that rise and stay below hi
abbrev pub EachStands : Callsign → ℕ → ℕ → ℕ → List (ℕ × Holder) → List sets.Holder → List CircuitTold → Type 0
EachStands own ttl hi lo es [] told = (es ≡ []) × (told ≡ []) × (lo ≤ hi)
EachStands own ttl hi lo es (h ∷ hs) told =
    (lo ≤ h.id)
    × (Past (λ rest theirs. EachStands own ttl hi (suc h.id) rest hs theirs) h es told
    ⊎ Here own ttl (λ rest theirs. EachStands own ttl hi (suc h.id) rest hs theirs) h es told)

-- the ends that are held stand for those of the machine, of which this is untold
pub record HeldStands (c : HeldEnds) (s : SetState) (told : List CircuitTold) : Type 0 where
  pub own : s.own ≡ c.own
  pub user : s.user ≡ c.user
  pub config : s.config ≡ c.config
  pub next : s.next ≡ c.next
  pub number : s.number ≡ c.number
  pub ends : EachStands s.own s.ttl s.number 0 c.ends.entries s.ends told

-- the node, its user, its settings, its next pair and number stay
pub record SameNode (c c2 : HeldEnds) : Type 0 where
  pub own : c2.own ≡ c.own
  pub user : c2.user ≡ c.user
  pub config : c2.config ≡ c.config
  pub next : c2.next ≡ c.next
  pub number : c2.number ≡ c.number

-- from a state of which nothing is untold, to the one that the act leads to, of which that is untold which it tells
abbrev pub HeldGoes : sets.Act → HeldEnds → HeldEnds → Type 0
HeldGoes act old new = (s : SetState) → HeldStands old s [] → HeldStands new (sets.set_step s act).set (sets.set_step s act).told

-- no output and no notice waits at an end
abbrev pub Rests : List (ℕ × Holder) → Type 0
Rests [] = Unit {0}
Rests (e ∷ es) = IsDrained e.1.end × Rests es

-- the answers of calls of an end, by the end of the machine that has this number
abbrev pub by_write : Result (Unit {0}) WriteRefusal → Result (Unit {0}) SetRefusal
by_write (Ok u) = Ok u
by_write (Err refusal) = Err (set_refusal.Write refusal)

abbrev pub write_answer : Option sets.Holder → List ℕ → Result (Unit {0}) SetRefusal
write_answer None message = Err set_refusal.NoEnd
write_answer (Some h) message = if h.gone then Err set_refusal.NoEnd else by_write (end.write_answer h.end message)

abbrev pub take_answer : Option sets.Holder → Result Bool NoEnd
take_answer None = Err (record {})
take_answer (Some h) = if h.gone then Err (record {}) else Ok (nat_lt 0 (length (inbox h.end.receiving)))

abbrev pub message_at : List ℕ → Option sets.Holder → List ℕ
message_at bytes None = bytes
message_at bytes (Some h) = if h.gone then bytes else first_or bytes (inbox h.end.receiving)

abbrev pub close_answer : Option sets.Holder → Result (Unit {0}) NoEnd
close_answer None = Err (record {})
close_answer (Some h) = if h.gone then Err (record {}) else Ok tt

abbrev pub discard_answer : Option sets.Holder → Result (Unit {0}) DiscardRefusal
discard_answer None = Err discard_refusal.NoEnd
discard_answer (Some h) =
    if h.gone then Err discard_refusal.NoEnd else (if sets.has_ended h.end.phase then Ok tt else Err discard_refusal.NotEnded)

-- there is an end, and it has ended
abbrev pub HasEnded : Option Holder → Type 0
HasEnded None = ⊥
HasEnded (Some k) = (x : State) → StandsFor k.end x → true ≡ sets.has_ended x.phase

-- ---- looking for an end ----
-- whether an end has nothing to tell
abbrev pub IsSilent : Holder → Bool → Type 0
IsSilent k b = (own : Callsign) (ttl id : ℕ) (h : sets.Holder) (told : List CircuitTold) → Keeps own ttl id k h told → b ≡ is_empty told

-- the number of the first one that has something to tell
abbrev pub FirstLoud : Option ℕ → List (ℕ × Holder) → Type 0
FirstLoud r [] = r ≡ None
FirstLoud r (e ∷ es) = ((r ≡ Some e.0) × IsSilent e.1 false) ⊎ (IsSilent e.1 true × FirstLoud r es)

-- whether an end is open and passes the test
abbrev pub Fits : (sets.Holder → Bool) → Holder → Bool → Type 0
Fits test k b = (own : Callsign) (ttl id : ℕ) (h : sets.Holder) (told : List CircuitTold) → Keeps own ttl id k h told → b ≡ (sets.is_open h && test h)

-- the number of the first one that is and does
abbrev pub FirstFit : (sets.Holder → Bool) → Option ℕ → List (ℕ × Holder) → Type 0
FirstFit test r [] = r ≡ None
FirstFit test r (e ∷ es) = ((r ≡ Some e.0) × Fits test e.1 true) ⊎ (Fits test e.1 false × FirstFit test r es)

-- ---- how much is untold ----
-- by what the code holds: an end itself counts, since it is told once that it is gone
abbrev pub untold_at : Holder → ℕ
untold_at k = 1 + (if k.unannounced then 1 else 0) + 2 * length k.end.outs + (if is_some k.end.notice then 1 else 0)

abbrev pub untold_in : List (ℕ × Holder) → ℕ
untold_in [] = 0
untold_in (e ∷ es) = untold_at e.1 + untold_in es

-- a sending may come to nothing, which is told next
abbrev pub cost : Untold → ℕ
cost (untold.Event e) = 1
cost (untold.Out id number to t) = 2

-- by as much it has fallen as was told
abbrev pub FallsBy : Option Untold → ℕ → ℕ → Type 0
FallsBy None old new = new ≡ old
FallsBy (Some u) old new = cost u + new ≤ old

-- a datagram brings less than 900
abbrev pub Brings : ℕ → ℕ → Type 0
Brings old new = new ≤ old + 900

-- what of an end is untold once this was told of it: it is held no longer once it has told that it is gone
abbrev pub left_at : Untold → Holder → ℕ
left_at u k = if is_last u then 0 else untold_at k

-- ---- what is told first ----
-- the first thing is told of what the set tells, and the rest is left untold; or there is nothing
abbrev pub Gives : sets.SetDone → Option Untold → HeldEnds → Type 0
Gives d None c = (d.told ≡ []) × HeldStands c d.set []
Gives d (Some u) c =
    (t : CircuitTold) × (rest : List CircuitTold) × (d.told ≡ t ∷ rest) × (told_for d.set.own d.set.ttl u ≡ Some t) × HeldStands c d.set rest

-- the ends once this was told of the one with a number, which has come to k
abbrev pub left_of : ℕ → Bool → List (ℕ × Holder) → Holder → List (ℕ × Holder)
left_of id true es k = remove_entry (nat_eq id) (set_value (nat_eq id) es k)
left_of id false es k = set_value (nat_eq id) es k

-- an end that has something to tell tells this, and comes to another one
pub record TellsFirst (id : ℕ) (k : Holder) (u : Untold) (k2 : Holder) : Type 0 where
  pub tells : (own : Callsign) (ttl : ℕ) (h : sets.Holder) (told : List CircuitTold) → Keeps own ttl id k h told → is_empty told ≡ false → Tells own ttl id h u k2 told
  pub falls : cost u + left_at u k2 ≤ untold_at k

-- so does the end with a number, where it is held
abbrev pub ToldBy : ℕ → Option Holder → Option Untold → List (ℕ × Holder) → List (ℕ × Holder) → Type 0
ToldBy id None r old new = (r ≡ None) × (new ≡ old)
ToldBy id (Some k) r old new = (u : Untold) × (k2 : Holder) × (r ≡ Some u) × TellsFirst id k u k2 × (new ≡ set_value (nat_eq id) old k2)

-- the same, and it is held no longer once it has told that it is gone
abbrev pub NextOf : ℕ → Option Holder → Option Untold → List (ℕ × Holder) → List (ℕ × Holder) → Type 0
NextOf id None r old new = (r ≡ None) × (new ≡ old)
NextOf id (Some k) r old new = (u : Untold) × (k2 : Holder) × (r ≡ Some u) × TellsFirst id k u k2 × (new ≡ left_of id (is_last u) old k2)

-- a transport is handed to the end with a number, where it is held
abbrev pub Hands : ℕ → Option Holder → Transport → ℕ → Bool → List (ℕ × Holder) → List (ℕ × Holder) → Type 0
Hands id None t now heeded old new = (heeded ≡ false) × (new ≡ old)
Hands id (Some k) t now heeded old new =
    (e2 : EndView)
    × ((x : State) → StandsFor k.end x → heeded ≡ heeds x.phase t)
    × ((x : State) → StandsFor k.end x → Stands e2 (end.step x (end.Arrive t) now))
    × (new ≡ set_value (nat_eq id) old (record k { end = e2 }))
    × (length e2.outs ≤ 256)

-- ---- new ends ----
-- the pairs of the ends that are held
abbrev pub pairs_of : List (ℕ × Holder) → List Pair
pairs_of [] = []
pairs_of (e ∷ es) = e.1.pair ∷ pairs_of es

-- an end more is held
pub record Holds (k : Holder) (old new : HeldEnds) : Type 0 where
  pub own : new.own ≡ old.own
  pub user : new.user ≡ old.user
  pub config : new.config ≡ old.config
  pub next : new.next ≡ pair_after k.pair
  pub number : new.number ≡ old.number + 1
  pub ends : new.ends.entries ≡ insert_entry nat_eq old.ends.entries old.number k

-- ---- ticks ----
-- no output and no notice waits at the end in this place, if there is one
abbrev pub RestsAt : ℕ → List (ℕ × Holder) → Type 0
RestsAt nth es = (e : ℕ × Holder) → slice_get es nth ≡ Some e → IsDrained e.1.end

-- an end has come to another one as by a tick
abbrev pub Ticks : ℕ → Holder → Holder → Type 0
Ticks now k k2 =
    (e2 : EndView) × (k2 ≡ record k { end = e2 }) × ((x : State) → StandsFor k.end x → Stands e2 (end.step x end.Tick now))

-- so has the one in this place, if there is one, and all others stay
abbrev pub TicksAt : ℕ → ℕ → Option (ℕ × Holder) → List (ℕ × Holder) → List (ℕ × Holder) → Type 0
TicksAt nth now None old new = new ≡ old
TicksAt nth now (Some e) old new = (k2 : Holder) × Ticks now e.1 k2 × (new ≡ set_value_at old nth k2)

abbrev pub TicksNth : ℕ → ℕ → List (ℕ × Holder) → List (ℕ × Holder) → Type 0
TicksNth nth now old new = TicksAt nth now (slice_get old nth) old new

-- the first so many of them have come to others as by a tick, and the rest stays
abbrev pub TicksTo : ℕ → ℕ → List (ℕ × Holder) → List (ℕ × Holder) → Type 0
TicksTo now zero old new = new ≡ old
TicksTo now (suc n) [] new = new ≡ []
TicksTo now (suc n) (e ∷ es) [] = ⊥
TicksTo now (suc n) (e ∷ es) (f ∷ fs) = (f.0 ≡ e.0) × Ticks now e.1 f.1 × TicksTo now n es fs
