-- How many messages and early fragments all ends of a set hold, as the set goes on.
use Rattle.std.proofs.Common.{◌≡◌, ◌≤◌, ◌<◌, ◌+◌, ◌⊎◌, inl, inr, ℕ, suc, refl, sym, subst, arith, drop, List, [], ◌∷◌, ◌++◌, length}
use Rattle.std.specs.Prelude.{Bool, true, false, not, ◌||◌, ◌&&◌, nat_eq, nat_lt, max, min, if◌then◌else◌, Option, Some, None, Result, Ok, Err}
use Rattle.std.proofs.lemmas.Bool.Decides.{nat_tests}
use Rattle.std.proofs.Math.Bool.{or-true}
use Rattle.radio_base.specs.declared.modulus.TheConstants.{COUNT_MAX}
use Rattle.ax_address.specs.Callsign.{Callsign, same_call}
use Rattle.circuit_l4.specs.Opening.{requesting, responding}
use Rattle.circuit_l4.specs.State.{Effect, inbox}
use Rattle.circuit_l4.specs.Table as end
use Rattle.circuit_l4.specs.Transports.{transport_at}
use Rattle.circuit_l4.specs.declared.pair.Pair.{Pair}
use Rattle.circuit_l4.specs.declared.transport.Transport.{Transport}
use Rattle.circuit_l4.specs.declared.transport.Transport.TheVariants.{Request, Accept, Refuse, Disconnect, Disconnected, Info, InfoAck}
use Rattle.circuit_l4.specs.declared.transport.TransportRefusal.{TransportRefusal}
use Rattle.circuit_table.specs.Sets.{heeds, Holder, SetDone, SetState, CircuitTold}
use Rattle.circuit_table.specs.Sets as s
use Rattle.circuit_table.specs.Standing.{take_answer}
use Rattle.l3_datagram.specs.declared.datagram.DatagramHead.{DatagramHead}
use Rattle.l3_datagram.specs.declared.datagram.DatagramRefusal.{DatagramRefusal}
use Rattle.l3_datagram.specs.declared.datagram.TheConstants.{HEAD_SIZE}
use Rattle.l3_datagram.specs.Datagrams.{head_at}
use Rattle.node_model.specs.Users.{has_taken}
use Rattle.node_model.proofs.Messages as m
use Rattle.node_model.proofs.Messages.{count}
use Rattle.node_model.proofs.Weights.{end_messages, is_among, messages_but, most_at}

-- ---- one end in the place of all of its number

abbrev pub Occurs : ℕ → List Holder → Type 0
Occurs id [] = ⊥
Occurs id (x ∷ xs) = (nat_eq x.id id ≡ true) ⊎ Occurs id xs

most_with : (h : Holder) (hs : List Holder) → most_at h.id (s.with_end h hs) ≤ end_messages h
most_with h [] = omega arith
most_with h (x ∷ xs) = by (nat_eq x.id h.id) refl (most_with h xs)
  where
    by : (b : Bool) → nat_eq x.id h.id ≡ b → most_at h.id (s.with_end h xs) ≤ end_messages h → most_at h.id ((if b then h else x) ∷ s.with_end h xs) ≤ end_messages h
    by true e rest = let self : nat_eq h.id h.id ≡ true = grind (arith, nat_tests) in rw self (grind (arith, rest))
    by false e rest = rw e rest

other_with : (id : ℕ) (h : Holder) (hs : List Holder) → nat_eq h.id id ≡ false → most_at id (s.with_end h hs) ≡ most_at id hs
other_with id h [] e = refl
other_with id h (x ∷ xs) e = by (nat_eq x.id h.id) refl (other_with id h xs e)
  where
    by : (b : Bool) → nat_eq x.id h.id ≡ b → most_at id (s.with_end h xs) ≡ most_at id xs → most_at id ((if b then h else x) ∷ s.with_end h xs) ≡ most_at id (x ∷ xs)
    by true f rest =
        let same : x.id ≡ h.id = grind (arith, nat_tests, f) in
        let other : nat_eq x.id id ≡ false = rw same e in
        rw (e, other) rest
    by false f rest = rw rest refl

-- a number that was counted before
seen_same : (seen : List ℕ) (h : Holder) (hs : List Holder) → is_among h.id seen ≡ true → messages_but seen (s.with_end h hs) ≡ messages_but seen hs
seen_same seen h [] e = refl
seen_same seen h (x ∷ xs) e = by (nat_eq x.id h.id) refl (λ id a. seen_same (id ∷ seen) h xs a)
  where
    by : (b : Bool) → nat_eq x.id h.id ≡ b → ((id : ℕ) → is_among h.id (id ∷ seen) ≡ true → messages_but (id ∷ seen) (s.with_end h xs) ≡ messages_but (id ∷ seen) xs)
        → messages_but seen ((if b then h else x) ∷ s.with_end h xs) ≡ messages_but seen (x ∷ xs)
    by true f rest =
        let same : x.id ≡ h.id = grind (arith, nat_tests, f) in
        let among : is_among h.id (h.id ∷ seen) ≡ true = rw e (or-true (nat_eq h.id h.id)) in
        let later = rest h.id among in
        rw (same, e) (omega (arith, later))
    by false f rest =
        let among : is_among h.id (x.id ∷ seen) ≡ true = rw e (or-true (nat_eq x.id h.id)) in
        let other : nat_eq h.id x.id ≡ false = grind (arith, nat_tests, f) in
        rw (other_with x.id h xs other, rest x.id among) refl

-- of what is counted first, the most of that number gives way to what is held then
moved : (seen : List ℕ) (h : Holder) (hs : List Holder) → is_among h.id seen ≡ false → Occurs h.id hs
    → messages_but seen (s.with_end h hs) + most_at h.id hs ≡ messages_but seen hs + end_messages h
moved seen h [] e o = absurd o
moved seen h (x ∷ xs) e o = by (nat_eq x.id h.id) refl (λ id a there. moved (id ∷ seen) h xs a there)
  where
    later : Occurs h.id (x ∷ xs) → nat_eq x.id h.id ≡ false → Occurs h.id xs
    later (inl y) f = absurd (cc (y, f))
    later (inr y) f = y

    by : (b : Bool) → nat_eq x.id h.id ≡ b
        → ((id : ℕ) → is_among h.id (id ∷ seen) ≡ false → Occurs h.id xs → messages_but (id ∷ seen) (s.with_end h xs) + most_at h.id xs ≡ messages_but (id ∷ seen) xs + end_messages h)
        → messages_but seen ((if b then h else x) ∷ s.with_end h xs) + (if b then max (end_messages x) (most_at h.id xs) else most_at h.id xs) ≡ messages_but seen (x ∷ xs) + end_messages h
    by true f others =
        let same : x.id ≡ h.id = grind (arith, nat_tests, f) in
        let among : is_among h.id (h.id ∷ seen) ≡ true = (let self : nat_eq h.id h.id ≡ true = grind (arith, nat_tests) in rw self refl) in
        let rest = seen_same (h.id ∷ seen) h xs among in
        let most : max (end_messages h) (most_at h.id (s.with_end h xs)) ≡ end_messages h = grind (arith, most_with h xs) in
        rw (same, e, most, rest) (omega arith)
    by false f others =
        let there : Occurs h.id xs = later o f in
        let among : is_among h.id (x.id ∷ seen) ≡ false = rw (f, e) refl in
        let other : nat_eq h.id x.id ≡ false = grind (arith, nat_tests, f) in
        let rest = others x.id among there in
        rw (other_with x.id h xs other) (omega (arith, rest))

-- an end that is found
pub record IsFound (h : Holder) (hs : List Holder) : Type 0 where
  pub occurs : Occurs h.id hs
  pub most : end_messages h ≤ most_at h.id hs

found_here : (h : Holder) (hs : List Holder) → IsFound h (h ∷ hs)
found_here h hs =
    let self : nat_eq h.id h.id ≡ true = grind (arith, nat_tests) in
    record { occurs = inl self; most = rw self (grind arith) }

found_later : (h x : Holder) (hs : List Holder) → IsFound h hs → IsFound h (x ∷ hs)
found_later h x hs f = record { occurs = inr f.occurs; most = by (nat_eq x.id h.id) }
  where
    by : (b : Bool) → end_messages h ≤ (if b then max (end_messages x) (most_at h.id hs) else most_at h.id hs)
    by true = grind (arith, f.most)
    by false = f.most

open_found : (test : Holder → Bool) (hs : List Holder) (h : Holder) → s.first_open test hs ≡ Some h → IsFound h hs
open_found test [] h e = absurd (cc e)
open_found test (x ∷ xs) h e = by (s.is_open x && test x) e (open_found test xs h)
  where
    by : (b : Bool) → (if b then Some x else s.first_open test xs) ≡ Some h → (s.first_open test xs ≡ Some h → IsFound h xs) → IsFound h (x ∷ xs)
    by true f rest = let same : x ≡ h = cc f in subst (λ (k : Holder). IsFound k (x ∷ xs)) same (found_here x xs)
    by false f rest = found_later h x xs (rest f)

pub end_found : (id : ℕ) (hs : List Holder) (h : Holder) → s.end_of id hs ≡ Some h → IsFound h hs
end_found id [] h e = absurd (cc e)
end_found id (x ∷ xs) h e = by (nat_eq x.id id) e (end_found id xs h)
  where
    by : (b : Bool) → (if b then Some x else s.end_of id xs) ≡ Some h → (s.end_of id xs ≡ Some h → IsFound h xs) → IsFound h (x ∷ xs)
    by true f rest = let same : x ≡ h = cc f in subst (λ (k : Holder). IsFound k (x ∷ xs)) same (found_here x xs)
    by false f rest = found_later h x xs (rest f)

-- ---- a step of one end

-- it holds no more than before, or so many more
still : (h : Holder) (hs : List Holder) (k : Holder) → k.id ≡ h.id → IsFound h hs → end_messages k ≤ end_messages h → messages_but [] (s.with_end k hs) ≤ messages_but [] hs
still h hs k same f few =
    let f2 : Occurs k.id hs = subst (λ i. Occurs i hs) (sym same) f.occurs in
    let m2 : end_messages h ≤ most_at k.id hs = subst (λ i. end_messages h ≤ most_at i hs) (sym same) f.most in
    let e = moved [] k hs refl f2 in
    omega (arith, e, few, m2)

one_more : (h : Holder) (hs : List Holder) (k : Holder) → k.id ≡ h.id → IsFound h hs → end_messages k ≤ suc (end_messages h) → messages_but [] (s.with_end k hs) ≤ suc (messages_but [] hs)
one_more h hs k same f few =
    let f2 : Occurs k.id hs = subst (λ i. Occurs i hs) (sym same) f.occurs in
    let m2 : end_messages h ≤ most_at k.id hs = subst (λ i. end_messages h ≤ most_at i hs) (sym same) f.most in
    let e = moved [] k hs refl f2 in
    omega (arith, e, few, m2)

fewer : (h : Holder) (hs : List Holder) (k : Holder) → k.id ≡ h.id → IsFound h hs → end_messages k < end_messages h → messages_but [] (s.with_end k hs) < messages_but [] hs
fewer h hs k same f few =
    let f2 : Occurs k.id hs = subst (λ i. Occurs i hs) (sym same) f.occurs in
    let m2 : end_messages h ≤ most_at k.id hs = subst (λ i. end_messages h ≤ most_at i hs) (sym same) f.most in
    let e = moved [] k hs refl f2 in
    omega (arith, e, few, m2)

-- what an end holds that isn't gone, and that has come to an effect
settled_most : (h : Holder) (g : Effect) → end_messages (s.after_effect h g) ≤ count g.end.receiving
settled_most h g = by (s.is_over g.end)
  where
    by : (b : Bool) → (if b then 0 else count g.end.receiving) ≤ count g.end.receiving
    by true = omega arith
    by false = omega arith

held_all : (h : Holder) → h.gone ≡ false → end_messages h ≡ count h.end.receiving
held_all h e = rw e refl

open_held : (h : Holder) → s.is_open h ≡ true → h.gone ≡ false
open_held h e = by h.gone e
  where
    by : (b : Bool) → (not b && not (s.has_ended h.end.phase)) ≡ true → b ≡ false
    by true f = absurd (cc f)
    by false f = refl

opened : (test : Holder → Bool) (hs : List Holder) (h : Holder) → s.first_open test hs ≡ Some h → h.gone ≡ false
opened test [] h e = absurd (cc e)
opened test (x ∷ xs) h e = by (s.is_open x) (test x) refl e (opened test xs h)
  where
    by : (a b : Bool) → s.is_open x ≡ a → (if a && b then Some x else s.first_open test xs) ≡ Some h → (s.first_open test xs ≡ Some h → h.gone ≡ false) → h.gone ≡ false
    by true true g f rest = let same : x ≡ h = cc f in subst (λ (k : Holder). k.gone ≡ false) same (open_held x g)
    by true false g f rest = rest f
    by false b g f rest = rest f

-- ---- a datagram that comes

abbrev Most : SetState → SetDone → Type 0
Most set d = messages_but [] d.set.ends ≤ suc (messages_but [] set.ends)

none_more : (set : SetState) (d : SetDone) → d.set ≡ set → Most set d
none_more set d e = rw e (omega arith)

handed_most : (set : SetState) (h : Holder) (first : List CircuitTold) (t : Transport) (now : ℕ) → IsFound h set.ends → h.gone ≡ false → Most set (s.goes_to set h first (end.step h.end (end.Arrive t) now))
handed_most set h first t now f gone =
    let g : Effect = end.step h.end (end.Arrive t) now in
    one_more h set.ends (s.after_effect h g) refl f (omega (arith, settled_most h g, m.arrives h.end t now, held_all h gone))

at_most : (set : SetState) (origin : Callsign) (d : List ℕ) (to : Pair) (t : Transport) (now : ℕ) (o : Option Holder) → s.first_open (s.named_by origin to) set.ends ≡ o
    → Most set (elim o as (λ x. SetDone) [ Some h ↦ s.hands_to set h d t now | None ↦ s.does_nothing set ])
at_most set origin d to t now None e = none_more set (s.does_nothing set) refl
at_most set origin d to t now (Some h) e = handed_most set h (if heeds h.end.phase t then s.Heeded h.id d ∷ [] else []) t now (open_found (s.named_by origin to) set.ends h e) (opened (s.named_by origin to) set.ends h e)

most_more : (id : ℕ) (k : Holder) (hs : List Holder) → end_messages k ≡ 0 → most_at id (hs ++ k ∷ []) ≡ most_at id hs
most_more id k [] e = by (nat_eq k.id id)
  where
    by : (b : Bool) → (if b then max (end_messages k) 0 else 0) ≡ 0
    by true = rw e refl
    by false = refl
most_more id k (x ∷ xs) e = rw (most_more id k xs e) refl

empty_more : (seen : List ℕ) (k : Holder) (hs : List Holder) → end_messages k ≡ 0 → messages_but seen (hs ++ k ∷ []) ≡ messages_but seen hs
empty_more seen k [] e = by (is_among k.id seen)
  where
    by : (b : Bool) → (if b then 0 else max (end_messages k) 0) + 0 ≡ 0
    by true = refl
    by false = rw e refl
empty_more seen k (x ∷ xs) e = rw (most_more x.id k xs e, empty_more (x.id ∷ seen) k xs e) refl

new_empty : (set : SetState) (at : Callsign) (asked : Option Pair) (g : Effect) → count g.end.receiving ≡ 0 → end_messages (s.holder_of set at asked g) ≡ 0
new_empty set at asked g e = by (s.is_over g.end)
  where
    by : (b : Bool) → (if b then 0 else count g.end.receiving) ≡ 0
    by true = refl
    by false = e

pub made_same : (set : SetState) (at : Callsign) (asked : Option Pair) (request : Option (List ℕ)) (g : Effect) → count g.end.receiving ≡ 0
    → messages_but [] (s.makes_end set at asked request g).set.ends ≡ messages_but [] set.ends
made_same set at asked request g e = empty_more [] (s.holder_of set at asked g) set.ends (new_empty set at asked g e)

anew_most : (set : SetState) (origin : Callsign) (d : List ℕ) (pair : Pair) (window now : ℕ) (b : Bool)
    → Most set (if b then record { set = set; told = s.Sent 0 None (s.datagram_to set origin (Refuse pair)) ∷ [] } else s.responds set origin d pair window now)
anew_most set origin d pair window now true = none_more set (record { set = set; told = s.Sent 0 None (s.datagram_to set origin (Refuse pair)) ∷ [] }) refl
anew_most set origin d pair window now false =
    let g : Effect = responding (s.new_pair set) pair window set.config (min now COUNT_MAX) in
    let same = made_same set origin (Some pair) (Some d) g (let none = m.none_filled set.config.window in omega (arith, none)) in
    omega (arith, same)

requested_most : (set : SetState) (origin : Callsign) (d : List ℕ) (pair : Pair) (window now : ℕ) (o : Option Holder) → s.first_open (s.opened_by origin pair) set.ends ≡ o
    → Most set (elim o as (λ x. SetDone) [ Some h ↦ s.goes_to set h [] (s.accept_again h.end) | None ↦ s.after_new_request set origin d pair window now ])
requested_most set origin d pair window now None e = anew_most set origin d pair window now (s.is_full set)
requested_most set origin d pair window now (Some h) e =
    let g : Effect = s.accept_again h.end in
    let few = still h set.ends (s.after_effect h g) refl (open_found (s.opened_by origin pair) set.ends h e)
    (omega (arith, settled_most h g, held_all h (opened (s.opened_by origin pair) set.ends h e))) in
    omega (arith, few)

received_most : (set : SetState) (origin : Callsign) (d : List ℕ) (t : Transport) (now : ℕ) → Most set (s.after_transport set origin d t now)
received_most set origin d (Request pair window user node) now = requested_most set origin d pair window now _ refl
received_most set origin d (Accept to own window) now = at_most set origin d to _ now _ refl
received_most set origin d (Refuse to) now = at_most set origin d to _ now _ refl
received_most set origin d (Disconnect to) now = at_most set origin d to _ now _ refl
received_most set origin d (Disconnected to) now = at_most set origin d to _ now _ refl
received_most set origin d (Info to tx rx flags text) now = at_most set origin d to _ now _ refl
received_most set origin d (InfoAck to rx flags) now = at_most set origin d to _ now _ refl

read_most : (set : SetState) (origin : Callsign) (d : List ℕ) (r : Result Transport TransportRefusal) (now : ℕ) → Most set (s.read_as set origin d r now)
read_most set origin d (Err e) now = none_more set (s.does_nothing set) refl
read_most set origin d (Ok t) now = received_most set origin d t now

either_most : (set : SetState) (x y : SetDone) (b : Bool) → Most set x → Most set y → Most set (if b then x else y)
either_most set x y true p q = p
either_most set x y false p q = q

up_most : (set : SetState) (d : List ℕ) (r : Result DatagramHead DatagramRefusal) (now : ℕ) → Most set (s.after_datagram set d r now)
up_most set d (Err e) now = none_more set (s.does_nothing set) refl
up_most set d (Ok head) now =
    either_most set (s.does_nothing set) (s.read_as set head.origin d (transport_at (drop HEAD_SIZE d)) now) (same_call head.origin set.own || not (same_call head.dest set.own))
    (none_more set (s.does_nothing set) refl) (read_most set head.origin d (transport_at (drop HEAD_SIZE d)) now)

-- a datagram that comes brings one message or fragment at most
pub comes_most : (set : SetState) (d : List ℕ) (now : ℕ) → Most set (s.set_step set (s.Comes d now))
comes_most set d now = up_most set d (head_at d) now

-- ---- calls

called_by : (set : SetState) (h : Holder) (call : s.Call) (now : ℕ) (b : Bool) → h.gone ≡ b → IsFound h set.ends → count (end.step h.end (s.input_of call) now).end.receiving ≤ count h.end.receiving
    → messages_but [] (if b then s.does_nothing set else s.goes_to set h [] (end.step h.end (s.input_of call) now)).set.ends ≤ messages_but [] set.ends
called_by set h call now true gone f few = omega arith
called_by set h call now false gone f few =
    let g : Effect = end.step h.end (s.input_of call) now in
    still h set.ends (s.after_effect h g) refl f (omega (arith, settled_most h g, held_all h gone, few))

call_most : (set : SetState) (call : s.Call) (now id : ℕ) (o : Option Holder) → s.end_of id set.ends ≡ o
    → ((h : Holder) → count (end.step h.end (s.input_of call) now).end.receiving ≤ count h.end.receiving)
    → messages_but [] (s.after_call set o call now).set.ends ≤ messages_but [] set.ends
call_most set call now id None e few = omega arith
call_most set call now id (Some h) e few = called_by set h call now h.gone refl (end_found id set.ends h e) (few h)

pub writes_most : (set : SetState) (text : List ℕ) (now id : ℕ) → messages_but [] (s.set_step set (s.Calls id (s.Writes text) now)).set.ends ≤ messages_but [] set.ends
writes_most set text now id = call_most set (s.Writes text) now id (s.end_of id set.ends) refl (λ h. rw (m.writes h.end text now) (omega arith))

pub closes_most : (set : SetState) (now id : ℕ) → messages_but [] (s.set_step set (s.Calls id s.Closes now)).set.ends ≤ messages_but [] set.ends
closes_most set now id = call_most set s.Closes now id (s.end_of id set.ends) refl (λ h. rw (m.closes h.end now) (omega arith))

pub connects_most : (set : SetState) (dest : Callsign) (now : ℕ) → messages_but [] (s.set_step set (s.Connect dest now)).set.ends ≤ messages_but [] set.ends
connects_most set dest now = by (same_call dest set.own || s.is_full set)
  where
    by : (b : Bool) → messages_but [] (if b then s.does_nothing set else s.requests set dest now).set.ends ≤ messages_but [] set.ends
    by true = omega arith
    by false =
        let same = made_same set dest None None (requesting (s.new_pair set) set.user set.own set.config (min now COUNT_MAX)) (let none = m.none_filled set.config.window in omega (arith, none)) in
        omega (arith, same)

takes_by : (set : SetState) (h : Holder) (now : ℕ) (b : Bool) → h.gone ≡ b → IsFound h set.ends → has_taken (if b then Err (record {}) else Ok (nat_lt 0 (length (inbox h.end.receiving)))) ≡ true
    → messages_but [] (if b then s.does_nothing set else s.goes_to set h [] (end.step h.end end.Take now)).set.ends < messages_but [] set.ends
takes_by set h now true gone f t = absurd (cc t)
takes_by set h now false gone f t =
    let g : Effect = end.step h.end end.Take now in
    let some : 0 < length (inbox h.end.receiving) = grind (arith, nat_tests, t) in
    fewer h set.ends (s.after_effect h g) refl f (omega (arith, settled_most h g, held_all h gone, m.takes h.end now some))

takes_of : (set : SetState) (now id : ℕ) (o : Option Holder) → s.end_of id set.ends ≡ o → has_taken (take_answer o) ≡ true → messages_but [] (s.after_call set o s.Takes now).set.ends < messages_but [] set.ends
takes_of set now id None e t = absurd (cc t)
takes_of set now id (Some h) e t = takes_by set h now h.gone refl (end_found id set.ends h e) t

-- a message that is taken leaves fewer
pub takes_fewer : (set : SetState) (now id : ℕ) → has_taken (take_answer (s.end_of id set.ends)) ≡ true → messages_but [] (s.set_step set (s.Calls id s.Takes now)).set.ends < messages_but [] set.ends
takes_fewer set now id t = takes_of set now id (s.end_of id set.ends) refl t
