-- What comes of the router, turn by turn.
use Rattle.std.specs.Prelude.{◌≡◌, ℕ, ◌-◌, Bool, true, false, not, ◌||◌, if◌then◌else◌, List, [], ◌∷◌, drop, Option, Some, None, Result, Ok, Err, refl}
use Rattle.std.specs.Option.{option_map}
use Rattle.std.proofs.Common.{sym, ◌∙◌, ap, subst}
use Rattle.std.proofs.lemmas.List.{append-nil}
use Rattle.ax_address.specs.Callsign.{Callsign, same_call}
use Rattle.route_table.specs.Log.{Item}
use Rattle.route_table.specs.Held.{StandsFor}
use Rattle.route_table.specs.Table.{next_hop}
use Rattle.l3_datagram.specs.declared.carrier.Offered.{Offered}
use Rattle.l3_datagram.specs.declared.carrier.Offered.TheVariants as offered
use Rattle.l3_datagram.specs.declared.datagram.DatagramHead.{DatagramHead}
use Rattle.l3_datagram.specs.declared.datagram.DatagramRefusal.{DatagramRefusal}
use Rattle.l3_datagram.specs.Datagrams.{CarrierCall, Datagram, head_at}
use Rattle.l3_datagram.specs.Routers.{IsFor}
use Rattle.circuit_l4.specs.declared.transport.Transport.{Transport}
use Rattle.circuit_l4.specs.declared.transport.TransportRefusal.{TransportRefusal}
use Rattle.circuit_l4.specs.Transports.{transport_at}
use Rattle.circuit_table.specs.declared.event.SetEvent.{SetEvent}
use Rattle.circuit_table.specs.declared.event.SetEvent.TheVariants as event
use Rattle.circuit_table.specs.declared.held_ends.HeldEnds.{HeldEnds}
use Rattle.circuit_table.specs.Sets as sets
use Rattle.circuit_table.specs.Sets.{Comes, SetDone, SetState, CircuitTold, after_datagram, read_as, set_step, does_nothing}
use Rattle.circuit_table.specs.Pumps.{Of, Turned, at_rest, ends_with, says_nothing, tells_first, tells_on, turn_step, with_done}
use Rattle.circuit_table.specs.Standing.{Gives, HeldStands, event_told, told_by_end}
use Rattle.circuit_table.specs.CircuitSets.{Circuits, DoesPump, SetStands}
use Rattle.circuit_table.proofs.Owning.{SameOwn}

module _ {C : Type 0} (made : C → List CarrierCall → C → Type 0) (none_made : (c : C) → made c [] c) where
  -- a turn that makes no call
  pub says : (old : Circuits C) (log : List Item) (e : Option SetEvent) (t : Turned) → StandsFor old.router.table log → option_map event_told e ≡ t.told → t.items ≡ [] → SetStands old t.after
      → DoesPump made old old log e (ends_with [] t)
  says old log e t stands told items st = record { told = told; calls = none_made old.router.carrier; table = rw (items, append-nil log) stands; stands = st }

  module _ (next_hop : Callsign → Option Callsign) (now : ℕ) where
    abbrev First : Circuits C → List Item → SetState → List CircuitTold → SetEvent → CircuitTold → Type 0
    First old log s rest e t = DoesPump made old old log (Some e) (turn_step now (tells_first next_hop s t rest) offered.Taken)

    -- what an end tells is told
    pub tells_event : (old : Circuits C) (log : List Item) (s : SetState) (t : CircuitTold) (rest : List CircuitTold) (e : SetEvent) → StandsFor old.router.table log → SetStands old (record { set = s; untold = rest; lost = None })
        → told_by_end e ≡ Some t → First old log s rest e t
    tells_event old log s t rest (event.Made id pair partner request) stands st e =
        let same : sets.Made id pair partner (option_map (λ d. d.items) request) ≡ t = cc e in
        subst (First old log s rest (event.Made id pair partner request)) same
        (says old log (Some (event.Made id pair partner request)) (record { told = Some (Of (sets.Made id pair partner (option_map (λ d. d.items) request))); after = record { set = s; untold = rest; lost = None }; items = [] }) stands refl refl st)
    tells_event old log s t rest (event.Heeded id d) stands st e =
        let same : sets.Heeded id d.items ≡ t = cc e in
        subst (First old log s rest (event.Heeded id d)) same
        (says old log (Some (event.Heeded id d)) (record { told = Some (Of (sets.Heeded id d.items)); after = record { set = s; untold = rest; lost = None }; items = [] }) stands refl refl st)
    tells_event old log s t rest (event.Notice id n) stands st e =
        let same : sets.Notice id n ≡ t = cc e in
        subst (First old log s rest (event.Notice id n)) same
        (says old log (Some (event.Notice id n)) (record { told = Some (Of (sets.Notice id n)); after = record { set = s; untold = rest; lost = None }; items = [] }) stands refl refl st)
    tells_event old log s t rest (event.Gone id facts) stands st e =
        let same : sets.Gone id facts ≡ t = cc e in
        subst (First old log s rest (event.Gone id facts)) same
        (says old log (Some (event.Gone id facts)) (record { told = Some (Of (sets.Gone id facts)); after = record { set = s; untold = rest; lost = None }; items = [] }) stands refl refl st)
    tells_event old log s t rest (event.Sent id number d) stands st e = absurd (cc e)
    tells_event old log s t rest (event.Dropped r) stands st e = absurd (cc e)
    tells_event old log s t rest (event.Lost call) stands st e = absurd (cc e)

-- ---- a datagram for this node ----
by_tests : (s : SetState) (r : SetDone) (a b : Bool) → a ≡ false → b ≡ true → (if a || not b then does_nothing s else r) ≡ r
by_tests s r true b e f = absurd (cc e)
by_tests s r false true e f = refl
by_tests s r false false e f = absurd (cc f)

headed : (s : SetState) (origin : Callsign) (d : List ℕ) (now : ℕ) (head : DatagramHead) (r : Result DatagramHead DatagramRefusal) → r ≡ Ok head → head.origin ≡ origin → same_call head.origin s.own ≡ false
    → same_call head.dest s.own ≡ true → after_datagram s d r now ≡ read_as s origin d (transport_at (drop 15 d)) now
headed s origin d now head (Err e) f from other mine = absurd (cc f)
headed s origin d now head (Ok x) f from other mine =
    let is : head ≡ x = cc (sym f) in
    let a : same_call x.origin s.own ≡ false = ap (λ (h : DatagramHead). same_call h.origin s.own) (sym is) ∙ other in
    let b : same_call x.dest s.own ≡ true = ap (λ (h : DatagramHead). same_call h.dest s.own) (sym is) ∙ mine in
    let c : x.origin ≡ origin = ap (λ (h : DatagramHead). h.origin) (sym is) ∙ from in
    by_tests s (read_as s x.origin d (transport_at (drop 15 d)) now) (same_call x.origin s.own) (same_call x.dest s.own) a b
    ∙ ap (λ (o : Callsign). read_as s o d (transport_at (drop 15 d)) now) c

pub handed : (s : SetState) (own origin : Callsign) (d : Datagram) (now : ℕ) → s.own ≡ own → IsFor own origin d → set_step s (Comes d.items now) ≡ read_as s origin d.items (transport_at (drop 15 d.items)) now
handed s own origin d now same f =
    headed s origin d.items now f.head (head_at d.items) f.read f.from (ap (same_call f.head.origin) same ∙ f.other) (ap (same_call f.head.dest) same ∙ f.mine)

pub reads : (s : SetState) (own origin : Callsign) (d : Datagram) (now : ℕ) (r : Result Transport TransportRefusal) → s.own ≡ own → IsFor own origin d → r ≡ transport_at (drop 15 d.items)
    → set_step s (Comes d.items now) ≡ read_as s origin d.items r now
reads s own origin d now r same f e = handed s own origin d now same f ∙ ap (λ (x : Result Transport TransportRefusal). read_as s origin d.items x now) (sym e)

module _ {C : Type 0} (made : C → List CarrierCall → C → Type 0) (none_made : (c : C) → made c [] c) (old : Circuits C) (log : List Item) (now : ℕ) (s : SetState) (stands : StandsFor old.router.table log) (st : SetStands old (at_rest s)) where
  abbrev nh : Callsign → Option Callsign
  nh = next_hop old.router.table.rules log

  abbrev Up : Option SetEvent → Circuits C → SetDone → Offered → Type 0
  Up e new d answer = DoesPump made old new log e (tells_on nh now (says_nothing (with_done (at_rest s) d)) answer)

  -- it can't be read
  pub unread : (d : SetDone) → d ≡ does_nothing s → Up None old d offered.Taken
  unread d e = subst (λ x. Up None old x offered.Taken) (sym e) (says made none_made old log None (says_nothing (at_rest s)) stands refl refl st)

  abbrev with_held : HeldEnds → Circuits C
  with_held h = record old { held = h }

  pub held_stands : (h : HeldEnds) (d : SetState) (rest : List CircuitTold) → SameOwn s d → HeldStands h d rest → SetStands (with_held h) (record { set = d; untold = rest; lost = None })
  held_stands h d rest same x = record { ends = x; own = same.own ∙ st.own; ttl = same.ttl ∙ st.ttl; lost = st.lost; unspent = st.unspent }

  silent_list : (d : SetState) (ts : List CircuitTold) (h : HeldEnds) → ts ≡ [] → SetStands (with_held h) (at_rest d) → DoesPump made old (with_held h) log None (tells_on nh now (says_nothing (record { set = d; untold = ts; lost = None })) offered.Taken)
  silent_list d [] h e x = record { told = refl; calls = none_made old.router.carrier; table = rw (append-nil log) stands; stands = x }
  silent_list d (t ∷ ts) h e x = absurd (cc e)

  -- it gives nothing to tell
  pub takes_silent : (d e : SetDone) (h : HeldEnds) → e ≡ d → SameOwn s d.set → Gives d None h → Up None (with_held h) e offered.Taken
  takes_silent d e h is same g =
      subst (λ x. Up None (with_held h) x offered.Taken) (sym is) (silent_list d.set d.told h g.0 (held_stands h d.set [] same g.1))

  loud_list : (d : SetState) (ts : List CircuitTold) (t : CircuitTold) (rest : List CircuitTold) (answer : Offered) → ts ≡ t ∷ rest
      → turn_step now (tells_first nh d t rest) answer ≡ tells_on nh now (says_nothing (record { set = d; untold = ts; lost = None })) answer
  loud_list d ts t rest answer e = ap (λ xs. tells_on nh now (says_nothing (record { set = d; untold = xs; lost = None })) answer) (sym e)

  pub takes_loud : (d e : SetDone) (new : Circuits C) (h : HeldEnds) (t : CircuitTold) (rest : List CircuitTold) (answer : Offered) (told : Option SetEvent) → e ≡ d → d.told ≡ t ∷ rest
      → DoesPump made (with_held h) new log told (turn_step now (tells_first nh d.set t rest) answer) → Up told new e answer
  takes_loud d e new h t rest answer told is first x =
      subst (λ y. Up told new y answer) (sym is)
      (subst (λ p. DoesPump made old new log told p) (loud_list d.set d.told t rest answer first) (record { told = x.told; calls = x.calls; table = x.table; stands = x.stands }))
