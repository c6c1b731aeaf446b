-- Each call of a set is the inputs that it takes.
use Rattle.std.specs.Prelude.{◌≡◌, ℕ, ◌+◌, ◌<◌, List, [], ◌∷◌, ◌++◌, Option, Some, None, Result, Ok, Err, refl}
use Rattle.std.proofs.Common.{sym, ◌∙◌, ap, arith}
use Rattle.std.proofs.lemmas.List.{append-nil}
use Rattle.ax_address.specs.Callsign.{Callsign}
use Rattle.l3_datagram.specs.declared.carrier.Offered.{Offered}
use Rattle.l3_datagram.specs.declared.carrier.Offered.TheVariants as offered
use Rattle.l3_datagram.specs.declared.datagram.DatagramHead.{DatagramHead}
use Rattle.l3_datagram.specs.declared.datagram.DatagramRefusal.{DatagramRefusal}
use Rattle.l3_datagram.specs.declared.routed.Routed.{Routed}
use Rattle.l3_datagram.specs.declared.routed.Routed.TheVariants as routed
use Rattle.l3_datagram.specs.Datagrams.{head_at}
use Rattle.l3_datagram.specs.Routers.{Way, Ends, ToNeighbour, forwarded_by, way}
use Rattle.circuit_table.specs.Sets.{Act, Comes, SetState, CircuitTold, Made, Sent, Heeded, Notice, Gone, Restarted, Lost, set_step}
use Rattle.circuit_table.specs.Pumps.{Dropped, Turn, Turned, Says, Offers, Waiting, dropped_by, heard_as, hears_by, untold_weight, sent_by_head, sent_to, tells_first, tells_of, weight, weights, with_done, ActsGo, GoesByInputs, HearsGo, HearsLostGoes, OfEach, TellsGo, TellsLess, TicksGo, TurnGoes, of_circuits, ticks_of}

-- one input
by_one : (a : Act) (w : Waiting) → GoesByInputs w (with_done w (set_step w.set a)) []
by_one a w = record { inputs = a ∷ []; set = refl; given = ap (λ (ts : List CircuitTold). w.untold ++ ts) (sym (append-nil (set_step w.set a).told)) }

pub acts_go : ActsGo
acts_go a w = by_one a w

pub ticks_go : TicksGo
ticks_go now w = record { inputs = ticks_of now w.set.ends; set = refl; given = refl }

-- no input: what was told was untold before
by_none : (w v : Waiting) (told : List CircuitTold) → v.set ≡ w.set → told ++ v.untold ≡ w.untold → GoesByInputs w v told
by_none w v told s e = record { inputs = []; set = s; given = e ∙ sym (append-nil w.untold) }

pub hears_lost_goes : HearsLostGoes
hears_lost_goes neighbour w = by_none w w [] refl refl

-- ---- what lies at the router ----
heard_goes : (now : ℕ) (w : Waiting) (r : Routed) → TurnGoes w (heard_as now w r)
heard_goes now w (routed.Mine origin d) = by_one (Comes d.items now) w
heard_goes now w routed.Forwarded = by_none w w [] refl refl
heard_goes now w (routed.Lost call) = by_none w w [] refl refl
heard_goes now w routed.Expired = by_none w w [] refl refl
heard_goes now w routed.NoRoute = by_none w w [] refl refl
heard_goes now w routed.Returned = by_none w w [] refl refl
heard_goes now w routed.Dropped = by_none w w [] refl refl
heard_goes now w routed.Bad = by_none w w [] refl refl

by_way : (now : ℕ) (w : Waiting) (x : Way) → OfEach (TurnGoes w) (hears_by now w x)
by_way now w (Ends told) = heard_goes now w told
by_way now w (ToNeighbour neighbour d) = λ answer. heard_goes now w (forwarded_by answer)

pub hears_go : HearsGo
hears_go next_hop now parcel w = by_way now w (way w.set.own next_hop parcel.1)

-- ---- what is untold ----
abbrev pub First : SetState → CircuitTold → List CircuitTold → Turned → Type 0
First s t rest u = (u.after.set ≡ s) × (u.after.untold ≡ rest) × (of_circuits u.told ≡ t ∷ [])

module _ (next_hop : Callsign → Option Callsign) where
  to_first : (s : SetState) (t : CircuitTold) (d : List ℕ) (rest : List CircuitTold) (o : Option Callsign) → OfEach (First s t rest) (sent_to next_hop s t d rest o)
  to_first s t d rest None = (refl, refl, refl)
  to_first s t d rest (Some hop) = λ answer. (refl, refl, refl)

  head_first : (s : SetState) (t : CircuitTold) (d : List ℕ) (rest : List CircuitTold) (r : Result DatagramHead DatagramRefusal) → OfEach (First s t rest) (sent_by_head next_hop s t d rest r)
  head_first s t d rest (Err e) = to_first s t d rest None
  head_first s t d rest (Ok head) = to_first s t d rest (next_hop head.dest)

  pub tells_it : (s : SetState) (t : CircuitTold) (rest : List CircuitTold) → OfEach (First s t rest) (tells_first next_hop s t rest)
  tells_it s (Sent id number d) rest = head_first s (Sent id number d) d rest (head_at d)
  tells_it s (Made id pair partner request) rest = (refl, refl, refl)
  tells_it s (Heeded id d) rest = (refl, refl, refl)
  tells_it s (Notice id notice) rest = (refl, refl, refl)
  tells_it s (Gone id facts) rest = (refl, refl, refl)
  tells_it s (Restarted pair) rest = (refl, refl, refl)
  tells_it s (Lost id facts) rest = (refl, refl, refl)

first_goes : (w : Waiting) (t : CircuitTold) (rest : List CircuitTold) (u : Turned) → w.untold ≡ t ∷ rest → First w.set t rest u → TurnGoes w u
first_goes w t rest u e f = by_none w u.after (of_circuits u.told) f.0 (ap (λ ts. ts ++ u.after.untold) f.2 ∙ ap (λ ts. t ∷ ts) f.1 ∙ sym e)

pub each_goes : (P Q : Turned → Type 0) → ((u : Turned) → P u → Q u) → (t : Turn) → OfEach P t → OfEach Q t
each_goes P Q f (Says u) p = f u p
each_goes P Q f (Offers to d by) p = λ answer. f (by answer) (p answer)

tells_untold : (next_hop : Callsign → Option Callsign) (w : Waiting) (ts : List CircuitTold) → w.untold ≡ ts → OfEach (TurnGoes w) (tells_of next_hop w.set ts)
tells_untold next_hop w [] e = by_none w _ [] refl (sym e)
tells_untold next_hop w (t ∷ rest) e = each_goes (First w.set t rest) (TurnGoes w) (λ u f. first_goes w t rest u e f) (tells_first next_hop w.set t rest) (tells_it next_hop w.set t rest)

tells_by : (next_hop : Callsign → Option Callsign) (w : Waiting) (o : Option Routed) → OfEach (TurnGoes w) (elim o as (λ x. Turn) [
  | Some r ↦ Says (record { told = Some (Dropped r); after = record { set = w.set; untold = w.untold; lost = None }; items = [] })
  | None ↦ tells_of next_hop w.set w.untold
])
tells_by next_hop w (Some r) = by_none w _ [] refl refl
tells_by next_hop w None = tells_untold next_hop w w.untold refl

pub tells_go : TellsGo
tells_go next_hop w = tells_by next_hop w w.lost

-- ---- it falls ----
abbrev Less : CircuitTold → List CircuitTold → Turned → Type 0
Less t rest u = untold_weight u.after < weight t + weights rest

answer_less : (s : SetState) (rest : List CircuitTold) (answer : Offered) → untold_weight (record { set = s; untold = rest; lost = dropped_by answer }) < 2 + weights rest
answer_less s rest offered.Taken = omega arith
answer_less s rest offered.Dropped = omega arith

module _ (next_hop : Callsign → Option Callsign) where
  to_less : (s : SetState) (id : ℕ) (number : Option ℕ) (d : List ℕ) (rest : List CircuitTold) (o : Option Callsign) → OfEach (Less (Sent id number d) rest) (sent_to next_hop s (Sent id number d) d rest o)
  to_less s id number d rest None = omega arith
  to_less s id number d rest (Some hop) = answer_less s rest

  head_less : (s : SetState) (id : ℕ) (number : Option ℕ) (d : List ℕ) (rest : List CircuitTold) (r : Result DatagramHead DatagramRefusal)
      → OfEach (Less (Sent id number d) rest) (sent_by_head next_hop s (Sent id number d) d rest r)
  head_less s id number d rest (Err e) = to_less s id number d rest None
  head_less s id number d rest (Ok head) = to_less s id number d rest (next_hop head.dest)

  tells_less_it : (s : SetState) (t : CircuitTold) (rest : List CircuitTold) → OfEach (Less t rest) (tells_first next_hop s t rest)
  tells_less_it s (Sent id number d) rest = head_less s id number d rest (head_at d)
  tells_less_it s (Made id pair partner request) rest = omega arith
  tells_less_it s (Heeded id d) rest = omega arith
  tells_less_it s (Notice id notice) rest = omega arith
  tells_less_it s (Gone id facts) rest = omega arith
  tells_less_it s (Restarted pair) rest = omega arith
  tells_less_it s (Lost id facts) rest = omega arith

less_untold : (next_hop : Callsign → Option Callsign) (s : SetState) (ts : List CircuitTold) → 0 < weights ts → OfEach (λ u. untold_weight u.after < weights ts) (tells_of next_hop s ts)
less_untold next_hop s [] p = absurd (omega arith)
less_untold next_hop s (t ∷ rest) p = tells_less_it next_hop s t rest

less_by : (next_hop : Callsign → Option Callsign) (s : SetState) (ts : List CircuitTold) (o : Option Routed) → 0 < untold_weight (record { set = s; untold = ts; lost = o })
    → OfEach (λ u. untold_weight u.after < untold_weight (record { set = s; untold = ts; lost = o })) (elim o as (λ x. Turn) [
      | Some r ↦ Says (record { told = Some (Dropped r); after = record { set = s; untold = ts; lost = None }; items = [] })
      | None ↦ tells_of next_hop s ts
    ])
less_by next_hop s ts (Some r) p = omega arith
less_by next_hop s ts None p =
    each_goes (λ u. untold_weight u.after < weights ts) (λ u. untold_weight u.after < untold_weight (record { set = s; untold = ts; lost = None })) (λ u f. omega arith) (tells_of next_hop s ts) (less_untold next_hop s ts (omega arith))

pub tells_less : TellsLess
tells_less next_hop w p = less_by next_hop w.set w.untold w.lost p
