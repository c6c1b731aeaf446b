-- The turns of which a call of `pump` is made.
use Rattle.std.specs.Prelude.{◌≡◌, ℕ, List, Option, Some, None, Result, Ok, Err, OnOk, refl}
use Rattle.std.proofs.Common.{sym, ◌∙◌, ap, subst}
use Rattle.std.proofs.lemmas.List.{append-nil}
use Rattle.radio_base.specs.declared.no_memory.NoMemory.{NoMemory}
use Rattle.ax_address.specs.Callsign.{Callsign}
use Rattle.route_table.specs.Log.{Item}
use Rattle.route_table.specs.Held.{StandsFor}
use Rattle.l3_datagram.specs.declared.carrier.Offered.{Offered}
use Rattle.l3_datagram.specs.declared.carrier.Offered.TheVariants as offered
use Rattle.l3_datagram.specs.declared.datagram.DatagramHead.{DatagramHead}
use Rattle.l3_datagram.specs.declared.datagram.DatagramRefusal.{DatagramRefusal}
use Rattle.l3_datagram.specs.declared.routed.Routed.{Routed}
use Rattle.l3_datagram.specs.declared.sending.Sending.{Sending}
use Rattle.l3_datagram.specs.Datagrams.{CarrierCall, Datagram, datagram_with, head_at}
use Rattle.l3_datagram.specs.Routers.{sending_to, sent_by, DoesSend, Routing, SameRouter}
use Rattle.circuit_l4.specs.declared.transport.Transport.{Transport}
use Rattle.circuit_l4.specs.Transports.{transport_octets}
use Rattle.circuit_table.specs.declared.event.SetEvent.TheVariants as event
use Rattle.circuit_table.specs.Sets as sets
use Rattle.circuit_table.specs.Sets.{SetState, CircuitTold}
use Rattle.circuit_table.specs.Pumps.{dropped_by, sent_by_head, sent_to, tells_first, turn_step}
use Rattle.circuit_table.specs.Standing.{datagram_by}
use Rattle.circuit_table.specs.CircuitSets.{Circuits, DoesPump, SetStands}
use Rattle.circuit_table.specs.SetTurns.{came_to_nothing}

-- what follows from what holds where there is a value holds there, too
pub on_ok : {P Q : Type 0} (r : Result (Unit {0}) NoMemory) → OnOk r P → (P → Q) → OnOk r Q
on_ok (Ok x) p f = f p
on_ok (Err e) p f = p

-- a set whose router is another one with the same call and hops
pub with_router : {C : Type 0} (old : Circuits C) (r : Routing C) (s : SetState) (rest : List CircuitTold) → SameRouter old.router r → SetStands old (record { set = s; untold = rest; lost = None })
    → (lost : Option Routed) → SetStands (record old { router = r; lost = lost }) (record { set = s; untold = rest; lost = lost })
with_router old r s rest same st lost = record { ends = st.ends; own = st.own ∙ sym same.own; ttl = st.ttl ∙ sym same.ttl; lost = refl; unspent = st.unspent }

-- ---- a sending ----
module _ {C : Type 0} (made : C → List CarrierCall → C → Type 0) (next_hop : Callsign → Option Callsign) where
  lost_as : (answer : Offered) (result : Sending) → result ≡ sent_by answer → came_to_nothing result ≡ dropped_by answer
  lost_as offered.Taken result e = ap came_to_nothing e
  lost_as offered.Dropped result e = ap came_to_nothing e

  pub sent_case : (old : Circuits C) (r : Routing C) (result : Sending) (answer : Offered) (log : List Item) (s : SetState) (id : ℕ) (number : Option ℕ) (d : Datagram) (rest : List CircuitTold) (now : ℕ) (o : Option Callsign)
      → SetStands old (record { set = s; untold = rest; lost = None }) → SameRouter old.router r → r.table ≡ old.router.table → StandsFor old.router.table log
      → DoesSend made old.router r result (sending_to d o now answer)
      → DoesPump made old (record old { router = r; lost = came_to_nothing result }) log (Some (event.Sent id number d)) (turn_step now (sent_to next_hop s (sets.Sent id number d.items) d.items rest o) answer)
  sent_case old r result answer log s id number d rest now None st same table stands does =
      let e : came_to_nothing result ≡ Some _ = ap came_to_nothing does.told in
      record {
        told = refl;
        calls = does.calls;
        table = rw (table, append-nil log) stands;
        stands = subst (λ l. SetStands (record old { router = r; lost = came_to_nothing result }) (record { set = s; untold = rest; lost = l })) e (with_router old r s rest same st (came_to_nothing result));
      }
  sent_case old r result answer log s id number d rest now (Some hop) st same table stands does =
      let e : came_to_nothing result ≡ dropped_by answer = lost_as answer result does.told in
      record {
        told = refl;
        calls = does.calls;
        table = rw (table, append-nil log) stands;
        stands = subst (λ l. SetStands (record old { router = r; lost = came_to_nothing result }) (record { set = s; untold = rest; lost = l })) e (with_router old r s rest same st (came_to_nothing result));
      }

  head_case : (old : Circuits C) (r : Routing C) (result : Sending) (answer : Offered) (log : List Item) (s : SetState) (id : ℕ) (number : Option ℕ) (d : Datagram) (rest : List CircuitTold) (now : ℕ) (head : DatagramHead) (h : Result DatagramHead DatagramRefusal)
      → h ≡ Ok head → SetStands old (record { set = s; untold = rest; lost = None }) → SameRouter old.router r → r.table ≡ old.router.table → StandsFor old.router.table log
      → DoesSend made old.router r result (sending_to d (next_hop head.dest) now answer)
      → DoesPump made old (record old { router = r; lost = came_to_nothing result }) log (Some (event.Sent id number d)) (turn_step now (sent_by_head next_hop s (sets.Sent id number d.items) d.items rest h) answer)
  head_case old r result answer log s id number d rest now head (Err e) f st same table stands does = absurd (cc f)
  head_case old r result answer log s id number d rest now head (Ok x) f st same table stands does =
      let e : head ≡ x = cc (sym f) in
      subst (λ (y : DatagramHead). DoesPump made old (record old { router = r; lost = came_to_nothing result }) log (Some (event.Sent id number d)) (turn_step now (sent_to next_hop s (sets.Sent id number d.items) d.items rest (next_hop y.dest)) answer)) e
      (sent_case old r result answer log s id number d rest now (next_hop head.dest) st same table stands does)

  -- what is untold is this sending, and it is told
  pub sends : (old : Circuits C) (r : Routing C) (result : Sending) (answer : Offered) (log : List Item) (s : SetState) (id : ℕ) (number : Option ℕ) (d : Datagram) (t : CircuitTold) (rest : List CircuitTold) (now : ℕ) (to : Callsign) (transport : Transport)
      → SetStands old (record { set = s; untold = rest; lost = None }) → SameRouter old.router r → r.table ≡ old.router.table → StandsFor old.router.table log
      → d ≡ datagram_with (record { origin = old.router.own; dest = to; ttl = old.router.ttl }) (transport_octets transport)
      → head_at d.items ≡ Ok (record { origin = old.router.own; dest = to; ttl = old.router.ttl })
      → Some (sets.Sent id number (datagram_by s.own s.ttl to transport)) ≡ Some t
      → DoesSend made old.router r result (sending_to d (next_hop to) now answer)
      → DoesPump made old (record old { router = r; lost = came_to_nothing result }) log (Some (event.Sent id number d)) (turn_step now (tells_first next_hop s t rest) answer)
  sends old r result answer log s id number d t rest now to transport st same table stands is head is_t does =
      let first : sets.Sent id number (datagram_by s.own s.ttl to transport) ≡ t = cc is_t in
      let octets : d.items ≡ datagram_by s.own s.ttl to transport =
      ap (λ (x : Datagram). x.items) is ∙ ap (λ (o : Callsign). datagram_by o old.router.ttl to transport) (sym st.own) ∙ ap (λ n. datagram_by s.own n to transport) (sym st.ttl) in
      let all : sets.Sent id number d.items ≡ t = ap (λ ys. sets.Sent id number ys) octets ∙ first in
      subst (λ (y : CircuitTold). DoesPump made old (record old { router = r; lost = came_to_nothing result }) log (Some (event.Sent id number d)) (turn_step now (tells_first next_hop s y rest) answer)) all
      (head_case old r result answer log s id number d rest now (record { origin = old.router.own; dest = to; ttl = old.router.ttl }) (head_at d.items) head st same table stands does)

  -- the same of the datagram that was written after it
  pub sends_it : (old : Circuits C) (r : Routing C) (result : Sending) (answer : Offered) (log : List Item) (s : SetState) (id : ℕ) (number : Option ℕ) (d : Datagram) (t : CircuitTold) (rest : List CircuitTold) (now : ℕ) (to : Callsign) (transport : Transport) (x y : List ℕ)
      → SetStands old (record { set = s; untold = rest; lost = None }) → SameRouter old.router r → r.table ≡ old.router.table → StandsFor old.router.table log
      → x ≡ transport_octets transport → y ≡ transport_octets transport
      → d ≡ datagram_with (record { origin = r.own; dest = to; ttl = r.ttl }) y → head_at d.items ≡ Ok (record { origin = r.own; dest = to; ttl = r.ttl })
      → Some (sets.Sent id number (datagram_by s.own s.ttl to transport)) ≡ Some t
      → DoesSend made old.router r result (sending_to (datagram_with (record { origin = old.router.own; dest = to; ttl = old.router.ttl }) x) (next_hop to) now answer)
      → (lost : Option Routed) → lost ≡ came_to_nothing result
      → DoesPump made old (record old { router = r; lost = lost }) log (Some (event.Sent id number d)) (turn_step now (tells_first next_hop s t rest) answer)
  sends_it old r result answer log s id number d t rest now to transport x y st same table stands ex ey is head is_t does lost none =
      let own : record { origin = r.own; dest = to; ttl = r.ttl } ≡ record { origin = old.router.own; dest = to; ttl = old.router.ttl } =
      ap (λ (o : Callsign). (let h : DatagramHead = record { origin = o; dest = to; ttl = r.ttl } in h)) same.own ∙ ap (λ n. (let h : DatagramHead = record { origin = old.router.own; dest = to; ttl = n } in h)) same.ttl in
      let is2 : d ≡ datagram_with (record { origin = old.router.own; dest = to; ttl = old.router.ttl }) (transport_octets transport) =
      is ∙ ap (λ (h : DatagramHead). datagram_with h y) own ∙ ap (datagram_with (record { origin = old.router.own; dest = to; ttl = old.router.ttl })) ey in
      let handed : datagram_with (record { origin = old.router.own; dest = to; ttl = old.router.ttl }) x ≡ d = ap (datagram_with (record { origin = old.router.own; dest = to; ttl = old.router.ttl })) ex ∙ sym is2 in
      subst (λ (l : Option Routed). DoesPump made old (record old { router = r; lost = l }) log (Some (event.Sent id number d)) (turn_step now (tells_first next_hop s t rest) answer)) (sym none)
      (sends old r result answer log s id number d t rest now to transport st same table stands is2 (head ∙ ap Ok own) is_t
      (subst (λ (z : Datagram). DoesSend made old.router r result (sending_to z (next_hop to) now answer)) handed does))
