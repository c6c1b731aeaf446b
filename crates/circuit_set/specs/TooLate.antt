-- What "too late" means, by the events that were told before (this project's profile). Each event is judged by how those before it
-- split. What a verdict computes with are the notes of `Books`, by which the same is late.
use Rattle.std.specs.Prelude.{◌≡◌, ◌≢◌, ℕ, ◌-◌, ◌*◌, ◌<◌, ◌⊎◌, Bool, true, nat_eq, ◌&&◌, List, [], ◌∷◌, ◌++◌, length, drop, Option, Some, Ok}
use Rattle.std.specs.List.{AllByRecursion, IsDistinct}
use Rattle.ax_address.specs.Callsign.{Callsign}
use Rattle.l3_datagram.specs.declared.datagram.DatagramHead.{DatagramHead}
use Rattle.l3_datagram.specs.Datagrams.{head_at}
use Rattle.circuit_l4.specs.declared.pair.Pair.{Pair}
use Rattle.circuit_l4.specs.declared.facts.EndFacts.{EndFacts}
use Rattle.circuit_l4.specs.declared.notice.EndNotice.{EndNotice}
use Rattle.circuit_l4.specs.declared.notice.EndNotice.TheVariants.{Opened}
use Rattle.circuit_l4.specs.Transports.{pair_at}
use Rattle.circuit_table.specs.Events.{Event, Name, ends_it, is_copy, same_name}
use Rattle.circuit_table.specs.Sets.{CircuitTold, Made, Sent, Heeded, Notice, Lost}

-- Where an event stands among others, in the order in which they were told.

-- One of these events is such a one, judged by those before it.
pub record Has (P : List Event → Event → Type 0) (events : List Event) : Type 0 where
  pub before : List Event
  pub at : Event
  pub after : List Event
  pub parts : events ≡ before ++ at ∷ after
  pub is : P before at

-- The last of these events that is so of anything is so of a.
pub record Last {A : Type 0} (P : A → List Event → Event → Type 0) (a : A) (events : List Event) : Type 0 where
  pub before : List Event
  pub at : Event
  pub after : List Event
  pub parts : events ≡ before ++ at ∷ after
  pub is : P a before at
  pub none : (b : A) (p q : List Event) (e : Event) → after ≡ p ++ e ∷ q → P b (before ++ at ∷ p) e → ⊥

-- The first of these events that is so of anything is so of a.
pub record First {A : Type 0} (P : A → Event → Type 0) (a : A) (events : List Event) : Type 0 where
  pub before : List Event
  pub at : Event
  pub after : List Event
  pub parts : events ≡ before ++ at ∷ after
  pub is : P a at
  pub none : (b : A) (p q : List Event) (e : Event) → before ≡ p ++ e ∷ q → P b e → ⊥

-- ---- what an event tells of an end x
abbrev pub Tells : Event → Name → CircuitTold → Type 0
Tells e x told = (e.node ≡ x.node) × (e.told ≡ told)

-- x was made, for this request, or for none
abbrev pub Makes : Name → Option (List ℕ) → Event → Type 0
Makes x request e = (pair : Pair) × (at : Callsign) × Tells e x (Made x.id pair at request)

-- the node of this call gave this pair to x
abbrev pub Gives : Callsign → Pair → Name → Event → Type 0
Gives own pair x e = (e.own ≡ own) × (at : Callsign) × (request : Option (List ℕ)) × Tells e x (Made x.id pair at request)

-- x sent a copy of this datagram, which carried the fragment of this number, or none
abbrev pub SendsCopy : Name → List ℕ → Option ℕ → Event → Type 0
SendsCopy x d number e = (sent : List ℕ) × Tells e x (Sent x.id number sent) × (is_copy d sent ≡ true)

abbrev pub SendsFragment : Name → ℕ → Event → Type 0
SendsFragment x n e = (sent : List ℕ) × Tells e x (Sent x.id (Some n) sent)

abbrev pub Heeds : Name → List ℕ → Event → Type 0
Heeds x d e = Tells e x (Heeded x.id d)

-- x was told how it ended
abbrev pub Ends : Name → Event → Type 0
Ends x e = (notice : EndNotice) × Tells e x (Notice x.id notice) × (ends_it notice ≡ true)

-- x was lost, as its node started again
abbrev pub Loses : Name → Event → Type 0
Loses x e = (facts : EndFacts) × Tells e x (Lost x.id facts)

-- x was told this, since it was made
abbrev pub WasTold : List Event → Name → EndNotice → Type 0
WasTold events x notice =
    (request : Option (List ℕ)) × (made : Last (λ r p e. Makes x r e) request events) × Has (λ p e. Tells e x (Notice x.id notice)) made.after

-- ---- partners

-- This datagram is a request of x: x is the end to which the node that it is from has last given the pair that it names behind its head
-- of 15 octets, and x has sent a copy of it.
pub record Asks (before : List Event) (d : List ℕ) (x : Name) : Type 0 where
  pub head : DatagramHead
  pub read : head_at d ≡ Ok head
  pub given : Last (λ y p e. Gives head.origin (pair_at 0 (drop 15 d)) y e) x before
  pub sent : Has (λ p e. (number : Option ℕ) × SendsCopy x d number e) before

-- the event made y for a request of x: a circuit of x and y
abbrev pub Opens : Name → Name → List Event → Event → Type 0
Opens x y before e = (d : List ℕ) × Makes y (Some d) e × Asks before d x

abbrev pub Joins : Name → Name → List Event → Event → Type 0
Joins x y before e = Opens x y before e ⊎ Opens y x before e

-- y is x's partner: the last circuit of x is one with y
abbrev pub Partners : List Event → Name → Name → Type 0
Partners before x y = Last (Joins x) y before

abbrev pub HasPartner : List Event → Name → Type 0
HasPartner before x = Has (λ p e. (y : Name) × Joins x y p e) before

-- ---- a datagram: x heeds d

-- the latest sending of a copy of it by x's partner y
abbrev pub LatestSending : List Event → Name → List ℕ → Option ℕ → Type 0
LatestSending before y d number = Last (λ n p e. SendsCopy y d n e) number before

-- x heeded a datagram whose latest sending by its partner carried fragment n
abbrev pub HeedsFragment : Name → ℕ → List Event → Event → Type 0
HeedsFragment x n before e = (d : List ℕ) × Heeds x d e × (y : Name) × Partners before x y × LatestSending before y d (Some n)

-- a fragment, by its number and by the end that has heeded it
pub record Overtaker : Type 0 where
  pub by : Name
  pub number : ℕ

abbrev pub same_overtaker : Overtaker → Overtaker → Bool
same_overtaker a b = same_name b.by a.by && nat_eq a.number b.number

-- x sent fragment n for the first time among the later events
abbrev pub FirstSent : List Event → List Event → Name → ℕ → Type 0
FirstSent earlier later x n = Has (λ p e. SendsFragment x n e) later × (Has (λ p e. SendsFragment x n e) earlier → ⊥)

-- Of a circuit of x and y, and what was told up to a sending and since: a fragment of either direction that was first sent since, and
-- has been heeded (so it was first heeded since, too).
pub record Overtakes (x y : Name) (upto since : List Event) (o : Overtaker) : Type 0 where
  pub sent : ((o.by ≡ x) × FirstSent upto since y o.number) ⊎ ((o.by ≡ y) × FirstSent upto since x o.number)
  pub heeded : Has (HeedsFragment o.by o.number) (upto ++ since)

-- how many overtakers are too many, where x has the partner y
abbrev pub Allowing : Type 1
Allowing = List Event → Name → Name → ℕ → Type 0

-- It is a copy of one that x's partner has sent, and its latest sending and this arrival have fewer overtakers than are too many: so
-- has each list of different ones.
pub record InTime (allows : Allowing) (before : List Event) (x : Name) (d : List ℕ) : Type 0 where
  pub partner : Name
  pub joined : Partners before x partner
  pub number : Option ℕ
  pub sending : LatestSending before partner d number
  pub allowance : ℕ
  pub allowed : allows before x partner allowance
  pub few : (os : List Overtaker) → IsDistinct same_overtaker os → AllByRecursion (Overtakes x partner (sending.before ++ sending.at ∷ []) sending.after) os → length os < allowance

-- so is each that is heeded
abbrev pub IsTimely : Allowing → List Event → Type 0
IsTimely allows events =
    (before after : List Event) (e : Event) (x : Name) (d : List ℕ) → events ≡ before ++ e ∷ after → Heeds x d e → InTime allows before x d

-- ---- how many overtakers are too many

-- 128, whatever the window
abbrev pub allows_fixed : Allowing
allows_fixed before x y n = n ≡ 128

-- z was told that its circuit is open with this window, at first since it was made
pub record OpenedWith (before : List Event) (z : Name) (window : ℕ) : Type 0 where
  pub request : Option (List ℕ)
  pub made : Last (λ r p e. Makes z r e) request before
  pub told : First (λ w e. Tells e z (Notice z.id (Opened w))) window made.after

abbrev pub WasAsked : List Event → Name → Type 0
WasAsked before x = Has (λ p e. (y : Name) × Opens y x p e) before

-- 256 less twice the window of that end of the circuit which a request has opened
pub record AllowsByWindow (before : List Event) (x y : Name) (n : ℕ) : Type 0 where
  pub opened : Name
  pub which : (WasAsked before x × (opened ≡ x)) ⊎ ((WasAsked before x → ⊥) × (opened ≡ y))
  pub window : ℕ
  pub told : OpenedWith before opened window
  pub is : n ≡ 256 - 2 * window

-- ---- a pair: a node gives an end this pair

-- z was made, was told no end since, and was not lost
pub record IsOpen (before : List Event) (z : Name) : Type 0 where
  pub made : Has (λ p e. (request : Option (List ℕ)) × Makes z request e) before
  pub lasts : Has (λ p e. Ends z e) made.after → ⊥
  pub kept : Has (λ p e. Loses z e) before → ⊥

-- An end that is made for a request has a partner, which has had none; and no open end of another node has a partner at this node with
-- this pair.
pub record IsNew (before : List Event) (node : ℕ) (pair : Pair) (request : Option (List ℕ)) : Type 0 where
  pub asked : (d : List ℕ) → request ≡ Some d → (x : Name) × Asks before d x × (HasPartner before x → ⊥)
  pub apart : (z y : Name) → IsOpen before z → z.node ≢ node → Partners before z y → y.node ≡ node → Has (λ p e. (own : Callsign) × Gives own pair y e) before → ⊥

-- so is each that is made
abbrev pub IsFresh : List Event → Type 0
IsFresh events =
    (before after : List Event) (e : Event) (x : Name) (pair : Pair) (at : Callsign) (request : Option (List ℕ)) → events ≡ before ++ e ∷ after → Tells e x (Made x.id pair at request)
    → IsNew before x.node pair request
