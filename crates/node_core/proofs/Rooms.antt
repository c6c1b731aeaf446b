-- A link that had room for a message of a circuit takes one once the message was taken and the circuits were pumped: of what is then told no more
-- goes over that link than it had room for beside.
use Rattle.std.proofs.Common.{◌≡◌, ◌≤◌, ◌+◌, ◌∙◌, ◌⊎◌, inl, inr, ℕ, refl, sym, ap, subst, arith, append-nil, length, List, [], ◌∷◌, ◌++◌}
use Rattle.std.specs.Prelude.{Bool, true, false, not, ◌&&◌, nat_le, nat_lt, if◌then◌else◌, Option, Some, None, Result, Ok, Err}
use Rattle.std.proofs.lemmas.Bool.Decides.{nat_tests}
use Rattle.ax_address.specs.Callsign.{Callsign, IsCallsign, same_call}
use Rattle.ax_address.proofs.NetCallLaws as net_calls
use Rattle.circuit_l4.specs.Moves as moves
use Rattle.circuit_l4.specs.Opening.{facts_of}
use Rattle.circuit_l4.specs.State.{Effect, Out, State as End, begin, info_ack, is_up, Appended, Receiving, inbox}
use Rattle.circuit_l4.specs.Table as ends
use Rattle.circuit_l4.specs.State as r
use Rattle.circuit_l4.specs.Transports.{transport_octets}
use Rattle.circuit_l4.specs.declared.notice.EndNotice.{EndNotice}
use Rattle.circuit_l4.specs.declared.notice.EndNotice.TheVariants.{FailedOversize}
use Rattle.circuit_table.specs.CircuitSets.{partner_at}
use Rattle.circuit_table.specs.Pumps as pumps
use Rattle.circuit_table.specs.Pumps.{Offers, Says, Turn, Waiting}
use Rattle.circuit_table.specs.Sets as sets
use Rattle.circuit_table.specs.Sets.{Holder, SetState, CircuitTold}
use Rattle.circuit_table.specs.Standing as answers
use Rattle.l3_datagram.specs.Datagrams.{Datagram, head_at, octets_with}
use Rattle.l3_datagram.specs.declared.carrier.Offered.{Offered}
use Rattle.l3_datagram.specs.declared.datagram.DatagramHead.{DatagramHead}
use Rattle.l3_datagram.specs.declared.datagram.DatagramRefusal.{DatagramRefusal}
use Rattle.l3_datagram.specs.declared.routed.Routed.{Routed}
use Rattle.l3_datagram.proofs.Spelling as datagrams
use Rattle.link_table.specs.Table.{Linked, Table}
use Rattle.link_table.specs.Texts.{room_of}
use Rattle.link_table.proofs.Rooms.{offers_take_one, room_takes_texts}
use Rattle.route_table.specs.Log.{Item}
use Rattle.node_model.specs.Links as links
use Rattle.node_model.specs.Pumping as p
use Rattle.node_model.specs.States.{State, at_set, next_hop}
use Rattle.node_model.specs.Users as users
use Rattle.node_core.proofs.Ends.{end_in, every_in}
use Rattle.node_core.proofs.Holders.{AreNamed}
use Rattle.node_core.proofs.Owning.{one}
use Rattle.node_model.proofs.Telling.{told_kept}

-- ---- what goes over a link

abbrev goes_by : (Callsign → Option Callsign) → Callsign → Result DatagramHead DatagramRefusal → Bool
goes_by hop peer (Err e) = false
goes_by hop peer (Ok head) = users.goes_over peer (hop head.dest)

abbrev load : (Callsign → Option Callsign) → Callsign → CircuitTold → ℕ
load hop peer (sets.Sent id number d) = one (goes_by hop peer (head_at d))
load hop peer _ = 0

abbrev loads : (Callsign → Option Callsign) → Callsign → List CircuitTold → ℕ
loads hop peer [] = 0
loads hop peer (t ∷ ts) = load hop peer t + loads hop peer ts

loads_both : (hop : Callsign → Option Callsign) (peer : Callsign) (ts us : List CircuitTold) → loads hop peer (ts ++ us) ≡ loads hop peer ts + loads hop peer us
loads_both hop peer [] us = omega arith
loads_both hop peer (t ∷ ts) us = omega (arith, loads_both hop peer ts us)

-- a link has room for 33 payloads beside what is untold and goes over it
abbrev HasRoom : Callsign → State → Type 0
HasRoom peer n = 33 + loads (next_hop n) peer n.set.untold ≤ links.room peer n.links

offer_room : (peer to : Callsign) (d : Datagram) (now : ℕ) (t : Table) → links.room peer t ≤ links.room peer (links.offer to d now t) + one (same_call peer to)
unfolding links.room links.offer
offer_room peer to d now t = by (same_call peer to) refl
  where
    of : Option Linked → ℕ
    of o = elim o as (λ x. ℕ) [ None ↦ 0 | Some l ↦ room_of l.link ]

    by : (b : Bool) → same_call peer to ≡ b → links.room peer t ≤ links.room peer (links.offer to d now t) + one b
    by true e = offers_take_one.one peer to d now t
    by false e = let same = ap of (offers_take_one.others peer to d now t e) in omega (arith, same)

-- ---- a turn

-- a turn brings nothing about routes, and no more goes over the link than this
abbrev Fits : (Callsign → Option Callsign) → Callsign → ℕ → Turn → Type 0
Fits hop peer k (Says u) = (u.items ≡ []) × (loads hop peer u.after.untold ≤ k)
Fits hop peer k (Offers to d by) = (answer : Offered) → ((by answer).items ≡ []) × (loads hop peer (by answer).after.untold + one (same_call peer to) ≤ k)

module _ (hop : Callsign → Option Callsign) (peer : Callsign) where
  to_fits : (set : SetState) (t : CircuitTold) (d : List ℕ) (ts : List CircuitTold) (o : Option Callsign) → Fits hop peer (one (users.goes_over peer o) + loads hop peer ts) (pumps.sent_to hop set t d ts o)
  to_fits set t d ts None = (refl, omega arith)
  to_fits set t d ts (Some next) = λ answer. (refl, omega arith)

  head_fits : (set : SetState) (t : CircuitTold) (d : List ℕ) (ts : List CircuitTold) (h : Result DatagramHead DatagramRefusal)
      → Fits hop peer (one (goes_by hop peer h) + loads hop peer ts) (pumps.sent_by_head hop set t d ts h)
  head_fits set t d ts (Err e) = (refl, omega arith)
  head_fits set t d ts (Ok head) = to_fits set t d ts (hop head.dest)

  first_fits : (set : SetState) (t : CircuitTold) (ts : List CircuitTold) → Fits hop peer (load hop peer t + loads hop peer ts) (pumps.tells_first hop set t ts)
  first_fits set (sets.Sent id number d) ts = head_fits set (sets.Sent id number d) d ts (head_at d)
  first_fits set (sets.Made id pair partner request) ts = (refl, omega arith)
  first_fits set (sets.Heeded id d) ts = (refl, omega arith)
  first_fits set (sets.Notice id notice) ts = (refl, omega arith)
  first_fits set (sets.Gone id facts) ts = (refl, omega arith)
  first_fits set (sets.Restarted pair) ts = (refl, omega arith)
  first_fits set (sets.Lost id facts) ts = (refl, omega arith)

  told_fits : (set : SetState) (ts : List CircuitTold) (o : Option Routed) → Fits hop peer (loads hop peer ts) (pumps.tells hop (record { set = set; untold = ts; lost = o }))
  told_fits set ts (Some x) = (refl, omega arith)
  told_fits set [] None = (refl, omega arith)
  told_fits set (t ∷ ts) None = first_fits set t ts

  tells_fits : (w : Waiting) → Fits hop peer (loads hop peer w.untold) (links.tells hop w)
  unfolding links.tells
  tells_fits w = told_fits w.set w.untold w.lost

module _ (peer : Callsign) (now : ℕ) where
  turn_room : (n : State) (k : ℕ) (t : Turn) → Fits (next_hop n) peer k t → 33 + k ≤ links.room peer n.links → HasRoom peer (p.take_turn now t n)
  turn_room n k (Says u) f room =
      let same : n.log ++ u.items ≡ n.log = ap (λ (xs : List Item). n.log ++ xs) f.0 ∙ append-nil n.log in
      let fits : 33 + loads (next_hop n) peer u.after.untold ≤ links.room peer n.links = omega (arith, room, f.1) in
      subst (λ (log : List Item). 33 + loads (next_hop (record n { log = log })) peer u.after.untold ≤ links.room peer n.links) (sym same) fits
  turn_room n k (Offers to d by) f room =
      let u = by (links.offer_answer to d now n.links) in
      let g = f (links.offer_answer to d now n.links) in
      let same : n.log ++ u.items ≡ n.log = ap (λ (xs : List Item). n.log ++ xs) g.0 ∙ append-nil n.log in
      let less = offer_room peer to d now n.links in
      let fits : 33 + loads (next_hop n) peer u.after.untold ≤ links.room peer (links.offer to d now n.links) = omega (arith, room, g.1, less) in
      subst (λ (log : List Item). 33 + loads (next_hop (record n { log = log })) peer u.after.untold ≤ links.room peer (links.offer to d now n.links)) (sym same) fits

  tell_by : (n : State) (b : Bool) → HasRoom peer n → HasRoom peer (if b then p.tell_one now n else n)
  tell_by n true room = turn_room n (loads (next_hop n) peer n.set.untold) (links.tells (next_hop n) n.set) (tells_fits (next_hop n) peer n.set) room
  tell_by n false room = room

  -- where nothing waits at the router
  dry_room : (n : State) → p.at_router n ≡ 0 → HasRoom peer n → HasRoom peer (p.pump now n)
  unfolding p.pump
  dry_room n e room = rw e (told_kept now (HasRoom peer) (λ x y. tell_by x (nat_lt 0 (p.pending x)) y) n room)

-- ---- a take

-- at most one acknowledgement goes out
abbrev Few : Effect → Type 0
Few g = (g.outs ≡ []) ⊎ ((u : End) × (g.outs ≡ (info_ack u false, None) ∷ []))

takes_few : (s : End) (now : ℕ) → Few (ends.step s ends.Take now)
takes_few s now = by (nat_lt 0 (length (inbox s.receiving))) (is_up s.phase && r.busy s.receiving && not (r.busy h)) a.fits
  where
    h : Receiving
    h = r.without_first s.receiving

    a : Appended
    a = r.follow h

    k : Effect
    k = moves.with_receiving h (begin s)

    by : (b c d : Bool) → Few (if b then (if c then (if d then moves.emit_ack false (moves.with_receiving a.half k) else moves.end_with FailedOversize (moves.with_receiving a.half k)) else k) else begin s)
    by false c d = inl refl
    by true false d = inl refl
    by true true true = inr ((moves.with_receiving a.half k).end, refl)
    by true true false = inl refl

module _ (hop : Callsign → Option Callsign) (peer : Callsign) (set : SetState) where
  notices_none : (id : ℕ) (ns : List EndNotice) → loads hop peer (sets.notices id ns) ≡ 0
  notices_none id [] = refl
  notices_none id (n ∷ ns) = omega (arith, notices_none id ns)

  tail_none : (id : ℕ) (ns : List EndNotice) (b : Bool) (e : End) → loads hop peer (sets.notices id ns ++ (if b then sets.Gone id (facts_of e) ∷ [] else [])) ≡ 0
  tail_none id ns true e = let none = notices_none id ns in omega (arith, none, loads_both hop peer (sets.notices id ns) (sets.Gone id (facts_of e) ∷ []))
  tail_none id ns false e = let none = notices_none id ns in omega (arith, none, loads_both hop peer (sets.notices id ns) [])

  -- it goes towards the partner
  ack_load : (h : Holder) (u : End) → IsCallsign set.own.letters set.own.ssid → IsCallsign h.at.letters h.at.ssid
      → goes_by hop peer (head_at (sets.datagram_to set h.at (info_ack u false))) ≡ users.goes_over peer (hop h.at)
  ack_load h u own at =
      let head : DatagramHead = record { origin = set.own; dest = h.at; ttl = set.ttl } in
      let octets : List ℕ = transport_octets (info_ack u false) in
      let spelled = datagrams.written_spells net_calls.written_spells head octets own at (omega arith) in
      let read = datagrams.spelled_is_read net_calls.spelled_is_read head octets (octets_with head octets) spelled in
      ap (goes_by hop peer) read.0

  outs_load : (h : Holder) (outs : List Out) (ns : List EndNotice) (b : Bool) → IsCallsign set.own.letters set.own.ssid → IsCallsign h.at.letters h.at.ssid → (outs ≡ []) ⊎ ((u : End) × (outs ≡ (info_ack u false, None) ∷ []))
      → (e : End) → loads hop peer (sets.sendings set h.id h.at outs ++ sets.notices h.id ns ++ (if b then sets.Gone h.id (facts_of e) ∷ [] else [])) ≤ one (users.goes_over peer (hop h.at))
  outs_load h outs ns b own at few e = by few
    where
      by : (outs ≡ []) ⊎ ((u : End) × (outs ≡ (info_ack u false, None) ∷ []))
          → loads hop peer (sets.sendings set h.id h.at outs ++ sets.notices h.id ns ++ (if b then sets.Gone h.id (facts_of e) ∷ [] else [])) ≤ one (users.goes_over peer (hop h.at))
      by (inl f) = let rest = tail_none h.id ns b e in rw f (omega (arith, rest))
      by (inr (u, f)) = let rest = tail_none h.id ns b e in let here = ap one (ack_load h u own at) in rw f (omega (arith, rest, here))

-- a link has room beside what comes of a take
beside : (b : Bool) (k : ℕ) → nat_le (if b then 34 else 33) k ≡ true → 33 + one b ≤ k
beside true k e = grind (arith, nat_tests, e)
beside false k e = grind (arith, nat_tests, e)

module _ (now id : ℕ) (n : State) (peer : Callsign) (named : AreNamed n.set.set) where
  abbrev set : SetState
  set = n.set.set

  abbrev Loads : Option Holder → Type 0
  Loads o = loads (next_hop n) peer (sets.after_call set o sets.Takes now).told ≤ one (users.goes_over peer (users.hop_to (partner_at o) n))

  take_load : (o : Option Holder) → users.end_at id n ≡ o → users.has_taken (answers.take_answer o) ≡ true → Loads o
  take_load None e t = absurd (cc t)
  take_load (Some h) e t = held h.gone t
    where
      g : Effect
      g = ends.step h.end ends.Take now

      at : IsCallsign h.at.letters h.at.ssid
      at = every_in (λ x. IsCallsign x.at.letters x.at.ssid) h set.ends named.1 (end_in id set.ends h e)

      held : (b : Bool) → users.has_taken (if b then Err (record {}) else Ok (nat_lt 0 (length (inbox h.end.receiving)))) ≡ true
          → loads (next_hop n) peer (if b then sets.does_nothing set else sets.goes_to set h [] g).told ≤ one (users.goes_over peer (users.hop_to (if b then None else Some h.at) n))
      held true f = absurd (cc f)
      held false f = outs_load (next_hop n) peer set h g.outs g.notes (sets.is_over g.end) named.0 at (takes_few h.end now) g.end

  took_room : n.set.untold ≡ [] → users.has_taken (answers.take_answer (users.end_at id n)) ≡ true → users.link_has_room_beside peer id n ≡ true
      → HasRoom peer (at_set (links.acts (sets.Calls id sets.Takes now)) n)
  unfolding links.acts
  took_room none t room =
      let o = users.end_at id n in
      let told : List CircuitTold = (sets.after_call set o sets.Takes now).told in
      let few = take_load o refl t in
      let fits = beside (users.goes_over peer (users.hop_to (partner_at o) n)) (links.room peer n.links) room in
      subst (λ (ts : List CircuitTold). 33 + loads (next_hop n) peer (ts ++ told) ≤ links.room peer n.links) (sym none) (omega (arith, few, fits))

  pub room_after : p.at_router n ≡ 0 → n.set.untold ≡ [] → users.has_taken (answers.take_answer (users.end_at id n)) ≡ true → users.link_has_room_beside peer id n ≡ true
      → 33 ≤ links.room peer (p.pump now (at_set (links.acts (sets.Calls id sets.Takes now)) n)).links
  room_after router none t room = let has = dry_room peer now (at_set (links.acts (sets.Calls id sets.Takes now)) n) router (took_room none t room) in omega (arith, has)

-- ---- a text

pub text_goes : (peer : Callsign) (text : List ℕ) (t : Table) → length text ≤ 8192 → 33 ≤ links.room peer t → links.text_answer peer text t ≡ Ok tt
unfolding links.text_answer links.room
text_goes peer text t few room = room_takes_texts peer text t few room

-- where nothing is pending nothing is untold
weighs : (t : CircuitTold) → 1 ≤ pumps.weight t
weighs (sets.Sent id number d) = omega arith
weighs (sets.Made id pair partner request) = omega arith
weighs (sets.Heeded id d) = omega arith
weighs (sets.Notice id notice) = omega arith
weighs (sets.Gone id facts) = omega arith
weighs (sets.Restarted pair) = omega arith
weighs (sets.Lost id facts) = omega arith

pub none_untold : (w : Waiting) → links.pending w ≡ 0 → w.untold ≡ []
unfolding links.pending
none_untold w e = by w.untold (omega (arith, e))
  where
    by : (ts : List CircuitTold) → pumps.weights ts ≤ 0 → ts ≡ []
    by [] f = refl
    by (t ∷ ts) f = let some = weighs t in absurd (omega (arith, f, some))
