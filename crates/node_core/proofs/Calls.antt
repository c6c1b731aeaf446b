-- A call of `pump`, over the links that a node has, leads to a node that is pumped to the same.
use Rattle.std.proofs.Common.{◌≡◌, ◌<◌, ◌+◌, ◌++◌, ◌∙◌, ℕ, suc, refl, sym, ap, subst, arith, append-nil, drop, List, [], ◌∷◌, length, map}
use Rattle.std.specs.Prelude.{Bool, true, false, ◌&&◌, nat_lt, is_none, if◌then◌else◌, Option, Some, None, Result, Ok, Err}
use Rattle.std.proofs.lemmas.Bool.Decides.{nat_tests}
use Rattle.ax_address.specs.Callsign.{Callsign}
use Rattle.circuit_table.specs.Pumps.{TellsLess, Of, Dropped, Offers, Pumped, Says, SetTold, Turn, Turned, Waiting, at_rest, ends_with, is_drained, is_empty, offer_of, outcome, turn_step, weight, weights}
use Rattle.circuit_table.specs.Pumps as pumps
use Rattle.circuit_table.proofs.Looping.{heard_items}
use Rattle.circuit_table.specs.Sets as sets
use Rattle.circuit_table.specs.Sets.{SetState}
use Rattle.l3_datagram.specs.Datagrams.{CarrierCall, Collect, Fail, Parcel, head_at}
use Rattle.l3_datagram.specs.Routers.{Way, Ends, ToNeighbour, way}
use Rattle.l3_datagram.specs.declared.carrier.Offered.{Offered}
use Rattle.l3_datagram.specs.declared.carrier.Offered.TheVariants.{Taken, Dropped as No_room}
use Rattle.l3_datagram.specs.declared.datagram.DatagramHead.{DatagramHead}
use Rattle.l3_datagram.specs.declared.datagram.DatagramRefusal.{DatagramRefusal}
use Rattle.l3_datagram.specs.declared.routed.Routed.{Routed}
use Rattle.link_table.specs.Calls.{collect, tell_lost}
use Rattle.link_table.specs.Standing.{AllAnswer, after_call as call_done, after_calls}
use Rattle.link_table.specs.Kept.{OffersLeave, TakesLower}
use Rattle.link_table.specs.Table.{Table}
use Rattle.node_model.specs.Links as circuits
use Rattle.node_model.specs.Links.{offer, offer_answer}
use Rattle.node_model.specs.Pumping.{ask, ask_for, at_router, pump, take_turn, tell_one, told_entries, with_turned}
use Rattle.route_table.specs.Log.{Item}
use Rattle.node_model.specs.Sessions.{hear_if}
use Rattle.node_model.specs.States.{Entry, State, at_links, next_hop}
use Rattle.node_model.proofs.Resting.{asks_on, pumped_nothing, tells_on}

-- the node after a call
abbrev pub after_call : Pumped → State → State
after_call q n = record n { links = after_calls q.calls n.links; set = q.after; log = n.log ++ q.items; entries = n.entries ++ told_entries q.told; sessions = hear_if n.settings.prompt q.told n.sessions }

-- what is left to be pumped after it: nothing where nothing was told
abbrev pub pumped_on : ℕ → Option SetTold → State → State
pumped_on now None n = n
pumped_on now (Some told) n = pump now n

abbrev pub Leads : ℕ → State → Pumped → Type 0
Leads now n q = AllAnswer n.links q.calls → pump now n ≡ pumped_on now q.told (after_call q n)

-- ---- calls of the links

after_more : (t : Table) (cs more : List CarrierCall) → after_calls (cs ++ more) t ≡ after_calls more (after_calls cs t)
after_more t [] more = refl
after_more t (c ∷ cs) more = after_more (call_done c t) cs more

front : (t : Table) (cs more : List CarrierCall) → AllAnswer t (cs ++ more) → AllAnswer t cs
front t [] more a = tt
front t (c ∷ cs) more a = (a.0, front (call_done c t) cs more a.1)

back : (t : Table) (cs more : List CarrierCall) → AllAnswer t (cs ++ more) → AllAnswer (after_calls cs t) more
back t [] more a = a
back t (c ∷ cs) more a = back (call_done c t) cs more a.1

lost_same : (t : Table) → t.pending.lost ≡ [] → tell_lost t ≡ t
lost_same t e = ap (λ (xs : List Callsign). record t { pending = record t.pending { lost = xs } }) (ap (drop 1) e ∙ sym e)

-- a turn over the links
turn_over : (now : ℕ) (t : Turn) (answer : Offered) (n : State) → AllAnswer n.links (offer_of t now answer) → after_call (turn_step now t answer) n ≡ take_turn now t n
unfolding offer offer_answer
turn_over now (Says u) answer n a = refl
turn_over now (Offers to d by) answer n a = ap (λ (x : Offered). with_turned (by x) (at_links (offer to d now) n)) a.0

-- ---- what is untold

rest_by : (s : SetState) (ts : List sets.CircuitTold) (o : Option Routed) → (is_none o && is_empty ts) ≡ true → record { set = s; untold = ts; lost = o } ≡ at_rest s
rest_by s [] None e = refl
rest_by s (t ∷ ts) None e = absurd (cc e)
rest_by s ts (Some r) e = absurd (cc e)

pub rest_of : (w : Waiting) → is_drained w ≡ true → w ≡ at_rest w.set
rest_of w e = rest_by w.set w.untold w.lost e

pub none_pending : (s : SetState) → nat_lt 0 (circuits.pending (at_rest s)) ≡ false
unfolding circuits.pending
none_pending s = refl

weight_some : (t : sets.CircuitTold) → 0 < weight t
weight_some (sets.Made id pair partner request) = omega arith
weight_some (sets.Sent id number d) = omega arith
weight_some (sets.Heeded id d) = omega arith
weight_some (sets.Notice id notice) = omega arith
weight_some (sets.Gone id facts) = omega arith
weight_some (sets.Restarted pair) = omega arith
weight_some (sets.Lost id facts) = omega arith

some_by : (ts : List sets.CircuitTold) (o : Option Routed) → (is_none o && is_empty ts) ≡ false → 0 < (if is_none o then 0 else 1) + weights ts
some_by [] None e = absurd (cc e)
some_by (t ∷ ts) None e = omega (arith, weight_some t)
some_by ts (Some r) e = omega arith

pub some_pending : (w : Waiting) → is_drained w ≡ false → nat_lt 0 (circuits.pending w) ≡ true
unfolding circuits.pending
some_pending w e =
    let some = some_by w.untold w.lost e in
    grind (arith, nat_tests, some)

IsTold : Turn → Offered → Type 0
IsTold t answer = (x : SetTold) × ((outcome t answer).told ≡ Some x)

to_told : (hop : Callsign → Option Callsign) (s : SetState) (t : sets.CircuitTold) (d : List ℕ) (rest : List sets.CircuitTold) (o : Option Callsign) (answer : Offered) → IsTold (pumps.sent_to hop s t d rest o) answer
unfolding IsTold
to_told hop s t d rest None answer = (Of t, refl)
to_told hop s t d rest (Some next) answer = (Of t, refl)

head_told : (hop : Callsign → Option Callsign) (s : SetState) (t : sets.CircuitTold) (d : List ℕ) (rest : List sets.CircuitTold) (h : Result DatagramHead DatagramRefusal) (answer : Offered)
    → IsTold (pumps.sent_by_head hop s t d rest h) answer
head_told hop s t d rest (Err e) answer = to_told hop s t d rest None answer
head_told hop s t d rest (Ok head) answer = to_told hop s t d rest (hop head.dest) answer

first_told : (hop : Callsign → Option Callsign) (s : SetState) (t : sets.CircuitTold) (rest : List sets.CircuitTold) (answer : Offered) → IsTold (pumps.tells_first hop s t rest) answer
unfolding IsTold
first_told hop s (sets.Sent id number d) rest answer = head_told hop s (sets.Sent id number d) d rest (head_at d) answer
first_told hop s (sets.Made id pair partner request) rest answer = (Of (sets.Made id pair partner request), refl)
first_told hop s (sets.Heeded id d) rest answer = (Of (sets.Heeded id d), refl)
first_told hop s (sets.Notice id notice) rest answer = (Of (sets.Notice id notice), refl)
first_told hop s (sets.Gone id facts) rest answer = (Of (sets.Gone id facts), refl)
first_told hop s (sets.Restarted pair) rest answer = (Of (sets.Restarted pair), refl)
first_told hop s (sets.Lost id facts) rest answer = (Of (sets.Lost id facts), refl)

told_by : (hop : Callsign → Option Callsign) (s : SetState) (ts : List sets.CircuitTold) (o : Option Routed) → (is_none o && is_empty ts) ≡ false → (answer : Offered)
    → IsTold (pumps.tells hop (record { set = s; untold = ts; lost = o })) answer
unfolding IsTold
told_by hop s [] None e answer = absurd (cc e)
told_by hop s (t ∷ ts) None e answer = first_told hop s t ts answer
told_by hop s ts (Some r) e answer = (Dropped r, refl)

some_told : (hop : Callsign → Option Callsign) (w : Waiting) → is_drained w ≡ false → (answer : Offered) → IsTold (pumps.tells hop w) answer
some_told hop w e answer = told_by hop w.set w.untold w.lost e answer

-- ---- what comes up gives the log nothing

by_items : (now : ℕ) (w : Waiting) (x : Way) (answer : Offered) → (outcome (pumps.hears_by now w x) answer).items ≡ []
by_items now w (Ends r) answer = heard_items now w r
by_items now w (ToNeighbour to d) Taken = refl
by_items now w (ToNeighbour to d) No_room = refl

hears_items : (hop : Callsign → Option Callsign) (now : ℕ) (parcel : Parcel) (w : Waiting) (answer : Offered) → (outcome (pumps.hears hop now parcel w) answer).items ≡ []
hears_items hop now parcel w answer = by_items now w (way w.set.own hop parcel.1) answer

module _ (offers : OffersLeave) (takes : TakesLower) (less : TellsLess) where
  -- the links after a datagram was taken: nothing is lost still, and the others wait
  offered_lost : (now : ℕ) (t : Turn) (answer : Offered) (l : Table) → (after_calls (offer_of t now answer) l).pending.lost ≡ l.pending.lost
  offered_lost now (Says u) answer l = refl
  offered_lost now (Offers to d by) answer l = (offers to d now l).lost

  offered_waiting : (now : ℕ) (t : Turn) (answer : Offered) (l : Table) → (after_calls (offer_of t now answer) l).pending.waiting ≡ l.pending.waiting
  offered_waiting now (Says u) answer l = refl
  offered_waiting now (Offers to d by) answer l = (offers to d now l).waiting

  -- a lost neighbour is told
  lost_leads : (now : ℕ) (n : State) (s : SetState) (neighbour : Callsign) (more : List Callsign) → n.links.pending.lost ≡ neighbour ∷ more
      → Leads now (record n { set = at_rest s }) (ends_with (Fail (Some neighbour) ∷ []) (pumps.hears_lost neighbour (at_rest s)))
  unfolding circuits.hears_lost
  lost_leads now n s neighbour more e a =
      let m : State = record n { set = at_rest s } in
      let asked : ask now m ≡ with_turned (pumps.hears_lost neighbour (at_rest s)) (at_links tell_lost m) = ap (λ (xs : List Callsign). ask_for now xs m.links.pending.waiting m) e in
      let some : at_router m ≡ suc (length more + length m.links.pending.waiting) = ap (λ (xs : List Callsign). length xs + length m.links.pending.waiting) e ∙ omega arith in
      asks_on offers takes less now (length more + length m.links.pending.waiting) m (none_pending s) some ∙ ap (pump now) asked

  -- one datagram is taken
  abbrev first_calls : ℕ → Parcel → Turn → Offered → List CarrierCall
  first_calls now parcel t answer = Fail None ∷ Collect (Some parcel) ∷ offer_of t now answer

  -- the node then, but for what is told
  abbrev resting_with : State → SetState → State
  resting_with n s = record n { set = at_rest s }

  abbrev taken_to : ℕ → Parcel → Turn → Offered → State → Waiting → Option SetTold → State
  taken_to now parcel t answer n w told =
      record n { links = after_calls (first_calls now parcel t answer) n.links; set = w; entries = n.entries ++ told_entries told; sessions = hear_if n.settings.prompt told n.sessions }

  asked_is : (now : ℕ) (n : State) (s : SetState) (parcel : Parcel) (more : List Parcel) (answer : Offered) → n.links.pending.lost ≡ [] → parcel ∷ more ≡ n.links.pending.waiting
      → (let t = pumps.hears (next_hop n) now parcel (at_rest s) in AllAnswer n.links (first_calls now parcel t answer)
      → ask now (resting_with n s) ≡ taken_to now parcel t answer n (outcome t answer).after (outcome t answer).told)
  unfolding circuits.hears
  asked_is now n s parcel more answer e f a =
      let t = pumps.hears (next_hop n) now parcel (at_rest s) in
      let m : State = resting_with n s in
      let asked : ask now m ≡ take_turn now t (at_links collect m) =
      ap (λ (xs : List Callsign). ask_for now xs m.links.pending.waiting m) e ∙ ap (λ (ps : List Parcel). ask_for now [] ps m) (sym f) in
      let a2 : AllAnswer (collect n.links) (offer_of t now answer) = subst (λ (l : Table). AllAnswer (collect l) (offer_of t now answer)) (lost_same n.links e) a.1.1 in
      let over = turn_over now t answer (at_links collect m) a2 in
      let links : after_calls (offer_of t now answer) (collect n.links) ≡ after_calls (first_calls now parcel t answer) n.links =
      ap (λ (l : Table). after_calls (offer_of t now answer) (collect l)) (sym (lost_same n.links e)) in
      let log : n.log ++ (outcome t answer).items ≡ n.log = ap (λ (is : List Item). n.log ++ is) (hears_items (next_hop n) now parcel (at_rest s) answer) ∙ append-nil n.log in
      asked ∙ (sym over ∙ (ap (λ (l : Table). record (after_call (turn_step now t answer) (at_links collect m)) { links = l }) links
      ∙ ap (λ (is : List Item). record (taken_to now parcel t answer n (outcome t answer).after (outcome t answer).told) { log = is }) log))

  -- where it is told what became of it, or nothing is untold after it, or something is untold
  abbrev LeadsOn : ℕ → State → SetState → Parcel → List (Parcel × Offered) → Pumped → Type 0
  LeadsOn now n s parcel more q = n.links.pending.lost ≡ [] → parcel ∷ map (λ (x : Parcel × Offered). x.0) more ≡ n.links.pending.waiting → Leads now (resting_with n s) q

  some_at : (n : State) (s : SetState) (parcel : Parcel) (more : List Parcel) → n.links.pending.lost ≡ [] → parcel ∷ more ≡ n.links.pending.waiting → at_router (resting_with n s) ≡ suc (length more)
  some_at n s parcel more e f = ap (λ (xs : List Callsign). length xs + length n.links.pending.waiting) e ∙ (ap (λ (ps : List Parcel). 0 + length ps) (sym f) ∙ omega arith)

  asked_on : (now : ℕ) (n : State) (s : SetState) (parcel : Parcel) (more : List Parcel) → n.links.pending.lost ≡ [] → parcel ∷ more ≡ n.links.pending.waiting
      → pump now (resting_with n s) ≡ pump now (ask now (resting_with n s))
  asked_on now n s parcel more e f = asks_on offers takes less now (length more) (resting_with n s) (none_pending s) (some_at n s parcel more e f)

  -- it is told what became of it
  told_leads : (now : ℕ) (n : State) (s : SetState) (parcel : Parcel) (more : List (Parcel × Offered)) (answer : Offered) (x : SetTold)
      → (let t = pumps.hears (next_hop n) now parcel (at_rest s) in (outcome t answer).told ≡ Some x
      → LeadsOn now n s parcel more (pumps.after_calls (first_calls now parcel t answer) (ends_with [] (outcome t answer))))
  told_leads now n s parcel more answer x told e f a =
      let t = pumps.hears (next_hop n) now parcel (at_rest s) in
      let u = outcome t answer in
      let calls = first_calls now parcel t answer in
      let a2 : AllAnswer n.links calls = subst (λ (cs : List CarrierCall). AllAnswer n.links cs) (append-nil calls) a in
      let q = pumps.after_calls calls (ends_with [] u) in
      let same : taken_to now parcel t answer n u.after u.told ≡ after_call q (resting_with n s) =
      ap (λ (cs : List CarrierCall). record (taken_to now parcel t answer n u.after u.told) { links = after_calls cs n.links }) (sym (append-nil calls))
      ∙ ap (λ (is : List Item). record (after_call q (resting_with n s)) { log = is }) (sym (ap (λ (is : List Item). n.log ++ is) (hears_items (next_hop n) now parcel (at_rest s) answer) ∙ append-nil n.log)) in
      asked_on now n s parcel (map (λ (y : Parcel × Offered). y.0) more) e f
      ∙ (ap (pump now) (asked_is now n s parcel (map (λ (y : Parcel × Offered). y.0) more) answer e f a2 ∙ same)
      ∙ ap (λ (o : Option SetTold). pumped_on now o (after_call q (resting_with n s))) (sym told))

  -- nothing is told of it, and the first that it brought is
  brought_leads : (now : ℕ) (n : State) (s : SetState) (parcel : Parcel) (more : List (Parcel × Offered)) (answer : Offered)
      → (let t = pumps.hears (next_hop n) now parcel (at_rest s) in (outcome t answer).told ≡ None → is_drained (outcome t answer).after ≡ false
      → LeadsOn now n s parcel more (pumps.after_calls (first_calls now parcel t answer) (turn_step now (pumps.tells (next_hop n) (outcome t answer).after) answer)))
  unfolding circuits.tells IsTold
  brought_leads now n s parcel more answer told some e f a =
      let t = pumps.hears (next_hop n) now parcel (at_rest s) in
      let u = outcome t answer in
      let calls = first_calls now parcel t answer in
      let t2 = pumps.tells (next_hop n) u.after in
      let a1 = front n.links calls (offer_of t2 now answer) a in
      let a2 = back n.links calls (offer_of t2 now answer) a in
      let m : State = record n { links = after_calls calls n.links; set = u.after } in
      let asked : ask now (resting_with n s) ≡ m =
      asked_is now n s parcel (map (λ (y : Parcel × Offered). y.0) more) answer e f a1
      ∙ (ap (taken_to now parcel t answer n u.after) told ∙ ap (λ (es : List Entry). record m { entries = es }) (append-nil n.entries)) in
      let over : after_call (turn_step now t2 answer) m ≡ tell_one now m = turn_over now t2 answer m a2 in
      let q = pumps.after_calls calls (turn_step now t2 answer) in
      let same : after_call (turn_step now t2 answer) m ≡ after_call q (resting_with n s) =
      ap (λ (l : Table). record (after_call q (resting_with n s)) { links = l }) (sym (after_more n.links calls (offer_of t2 now answer))) in
      let x = some_told (next_hop n) u.after some answer in
      asked_on now n s parcel (map (λ (y : Parcel × Offered). y.0) more) e f
      ∙ (ap (pump now) asked ∙ (tells_on offers takes less now m (some_pending u.after some) ∙ (ap (pump now) (sym over ∙ same)
      ∙ ap (λ (o : Option SetTold). pumped_on now o (after_call q (resting_with n s))) (sym x.1))))

  -- nothing is told of it and it brought nothing: the next one is taken
  silent_leads : (now : ℕ) (n : State) (s : SetState) (parcel : Parcel) (more : List (Parcel × Offered)) (answer : Offered)
      → (let t = pumps.hears (next_hop n) now parcel (at_rest s) in (outcome t answer).told ≡ None → is_drained (outcome t answer).after ≡ true
      → ((l : Table) → l.pending.lost ≡ [] → map (λ (y : Parcel × Offered). y.0) more ≡ l.pending.waiting
      → Leads now (resting_with (record n { links = l }) (outcome t answer).after.set) (pumps.takes_all (next_hop n) now (outcome t answer).after.set more))
      → LeadsOn now n s parcel more (pumps.after_calls (first_calls now parcel t answer) (pumps.takes_all (next_hop n) now (outcome t answer).after.set more)))
  silent_leads now n s parcel more answer told none rest e f a =
      let t = pumps.hears (next_hop n) now parcel (at_rest s) in
      let u = outcome t answer in
      let calls = first_calls now parcel t answer in
      let r = pumps.takes_all (next_hop n) now u.after.set more in
      let a1 = front n.links calls r.calls a in
      let a2 = back n.links calls r.calls a in
      let m : State = record n { links = after_calls calls n.links } in
      let asked : ask now (resting_with n s) ≡ resting_with m u.after.set =
      asked_is now n s parcel (map (λ (y : Parcel × Offered). y.0) more) answer e f a1
      ∙ (ap (taken_to now parcel t answer n u.after) told
      ∙ (ap (λ (es : List Entry). record m { set = u.after; entries = es }) (append-nil n.entries) ∙ ap (λ (w : Waiting). record m { set = w }) (rest_of u.after none))) in
      let lost : m.links.pending.lost ≡ [] = offered_lost now t answer (collect (tell_lost n.links)) ∙ ap (drop 1) e in
      let waits : map (λ (y : Parcel × Offered). y.0) more ≡ m.links.pending.waiting =
      ap (drop 1) f ∙ sym (offered_waiting now t answer (collect (tell_lost n.links))) in
      let q = pumps.after_calls calls r in
      let same : after_call r (resting_with m u.after.set) ≡ after_call q (resting_with n s) =
      ap (λ (l : Table). record (after_call q (resting_with n s)) { links = l }) (sym (after_more n.links calls r.calls)) in
      asked_on now n s parcel (map (λ (y : Parcel × Offered). y.0) more) e f
      ∙ (ap (pump now) asked ∙ (rest m.links lost waits a2 ∙ ap (pumped_on now r.told) same))

  -- what is done after one datagram, by what is told of it
  abbrev then_all : (Callsign → Option Callsign) → ℕ → List (Parcel × Offered) → Pumped → Option SetTold → Pumped
  then_all hop now more first o = elim o as (λ x. Pumped) [ Some told ↦ first | None ↦ pumps.after_calls first.calls (pumps.takes_all hop now first.after.set more) ]

  abbrev tells_by : (Callsign → Option Callsign) → ℕ → Turned → Offered → Option SetTold → Pumped
  tells_by hop now u answer o = elim o as (λ x. Pumped) [
    | Some told ↦ ends_with [] u
    | None ↦ (if is_drained u.after then ends_with [] u else turn_step now (pumps.tells hop u.after) answer)
  ]

  abbrev Rests : ℕ → State → Waiting → List (Parcel × Offered) → Type 0
  Rests now n w more =
      (l : Table) → l.pending.lost ≡ [] → map (λ (y : Parcel × Offered). y.0) more ≡ l.pending.waiting
      → Leads now (resting_with (record n { links = l }) w.set) (pumps.takes_all (next_hop n) now w.set more)

  none_leads : (now : ℕ) (n : State) (s : SetState) (parcel : Parcel) (more : List (Parcel × Offered)) (answer : Offered)
      → (let t = pumps.hears (next_hop n) now parcel (at_rest s) in (outcome t answer).told ≡ None → Rests now n (outcome t answer).after more → (b : Bool) → is_drained (outcome t answer).after ≡ b
      → (let first = pumps.after_calls (first_calls now parcel t answer) (if b then ends_with [] (outcome t answer) else turn_step now (pumps.tells (next_hop n) (outcome t answer).after) answer) in
      LeadsOn now n s parcel more (then_all (next_hop n) now more first first.told)))
  unfolding IsTold
  none_leads now n s parcel more answer told rest true drained e f =
      let t = pumps.hears (next_hop n) now parcel (at_rest s) in
      let calls = first_calls now parcel t answer in
      let first = pumps.after_calls calls (ends_with [] (outcome t answer)) in
      let next = pumps.takes_all (next_hop n) now (outcome t answer).after.set more in
      let same : then_all (next_hop n) now more first first.told ≡ pumps.after_calls calls next =
      ap (then_all (next_hop n) now more first) told ∙ ap (λ (cs : List CarrierCall). pumps.after_calls cs next) (append-nil calls) in
      subst (Leads now (resting_with n s)) (sym same) (silent_leads now n s parcel more answer told drained rest e f)
  none_leads now n s parcel more answer told rest false drained e f =
      let t = pumps.hears (next_hop n) now parcel (at_rest s) in
      let t2 = pumps.tells (next_hop n) (outcome t answer).after in
      let first = pumps.after_calls (first_calls now parcel t answer) (turn_step now t2 answer) in
      let x = some_told (next_hop n) (outcome t answer).after drained answer in
      let same : then_all (next_hop n) now more first first.told ≡ first = ap (then_all (next_hop n) now more first) x.1 in
      subst (Leads now (resting_with n s)) (sym same) (brought_leads now n s parcel more answer told drained e f)

  one_leads : (now : ℕ) (n : State) (s : SetState) (parcel : Parcel) (more : List (Parcel × Offered)) (answer : Offered)
      → (let t = pumps.hears (next_hop n) now parcel (at_rest s) in Rests now n (outcome t answer).after more → (o : Option SetTold) → (outcome t answer).told ≡ o
      → (let first = pumps.after_calls (first_calls now parcel t answer) (tells_by (next_hop n) now (outcome t answer) answer o) in
      LeadsOn now n s parcel more (then_all (next_hop n) now more first first.told)))
  one_leads now n s parcel more answer rest None told e f =
      let t = pumps.hears (next_hop n) now parcel (at_rest s) in
      none_leads now n s parcel more answer told rest (is_drained (outcome t answer).after) refl e f
  one_leads now n s parcel more answer rest (Some x) told e f =
      let t = pumps.hears (next_hop n) now parcel (at_rest s) in
      let first = pumps.after_calls (first_calls now parcel t answer) (ends_with [] (outcome t answer)) in
      let same : then_all (next_hop n) now more first first.told ≡ first = ap (then_all (next_hop n) now more first) told in
      subst (Leads now (resting_with n s)) (sym same) (told_leads now n s parcel more answer x told e f)

  all_leads : (now : ℕ) (ps : List (Parcel × Offered)) (n : State) (s : SetState) → n.links.pending.lost ≡ [] → map (λ (y : Parcel × Offered). y.0) ps ≡ n.links.pending.waiting
      → Leads now (resting_with n s) (pumps.takes_all (next_hop n) now s ps)
  all_leads now [] n s e f a =
      let m : State = resting_with n s in
      let q = ends_with [] (pumps.says_nothing (at_rest s)) in
      let none : at_router m ≡ 0 = ap (λ (xs : List Callsign). length xs + length n.links.pending.waiting) e ∙ ap (λ (ps : List Parcel). 0 + length ps) (sym f) in
      let same : after_call q m ≡ m =
      ap (λ (is : List Item). record m { log = is; entries = m.entries ++ [] }) (append-nil n.log) ∙ ap (λ (es : List Entry). record m { entries = es }) (append-nil n.entries) in
      pumped_nothing offers takes less now m (none_pending s) none ∙ sym same
  all_leads now (p ∷ ps) n s e f a =
      let t = pumps.hears (next_hop n) now p.0 (at_rest s) in
      let u = outcome t p.1 in
      let rest : Rests now n u.after ps = λ l lost waits. all_leads now ps (record n { links = l }) u.after.set lost waits in
      one_leads now n s p.0 ps p.1 rest u.told refl e f a

  asks_lead : (now : ℕ) (ps : List (Parcel × Offered)) (n : State) (s : SetState) (lost : List Callsign) → n.links.pending.lost ≡ lost → map (λ (y : Parcel × Offered). y.0) ps ≡ n.links.pending.waiting
      → Leads now (resting_with n s) (pumps.asks (next_hop n) now s lost ps)
  asks_lead now ps n s [] e f = all_leads now ps n s e f
  asks_lead now ps n s (neighbour ∷ more) e f = lost_leads now n s neighbour more e

  turn_leads : (now : ℕ) (n : State) (answer : Offered) → is_drained n.set ≡ false → Leads now n (turn_step now (pumps.tells (next_hop n) n.set) answer)
  unfolding circuits.tells IsTold
  turn_leads now n answer some a =
      let t = pumps.tells (next_hop n) n.set in
      let q = turn_step now t answer in
      let x = some_told (next_hop n) n.set some answer in
      tells_on offers takes less now n (some_pending n.set some) ∙ (ap (pump now) (sym (turn_over now t answer n a)) ∙ ap (λ (o : Option SetTold). pumped_on now o (after_call q n)) (sym x.1))

  lead_by : (now : ℕ) (n : State) (ps : List (Parcel × Offered)) (answer : Offered) → map (λ (y : Parcel × Offered). y.0) ps ≡ n.links.pending.waiting → (b : Bool) → is_drained n.set ≡ b
      → Leads now n (if b then pumps.asks (next_hop n) now n.set.set n.links.pending.lost ps else turn_step now (pumps.tells (next_hop n) n.set) answer)
  lead_by now n ps answer f true drained =
      subst (λ (w : Waiting). Leads now (record n { set = w }) (pumps.asks (next_hop n) now n.set.set n.links.pending.lost ps)) (sym (rest_of n.set drained))
      (asks_lead now ps n n.set.set n.links.pending.lost refl f)
  lead_by now n ps answer f false some = turn_leads now n answer some

  -- a call of `pump` leads to a node that is pumped to the same, or that is pumped
  pub call_leads : (now : ℕ) (n : State) (ps : List (Parcel × Offered)) (answer : Offered) → map (λ (y : Parcel × Offered). y.0) ps ≡ n.links.pending.waiting
      → Leads now n (pumps.pump_step (next_hop n) now n.set n.links.pending.lost ps answer)
  call_leads now n ps answer f = lead_by now n ps answer f (is_drained n.set) refl
