-- What an input leaves of a set: its own call, and its next number, which is the first one that no end has.
use Rattle.std.proofs.Common.{◌≡◌, ◌+◌, ◌∙◌, ℕ, refl, subst, List, [], ◌∷◌, ◌++◌}
use Rattle.std.specs.Prelude.{min, Bool, true, false, not, ◌&&◌, ◌||◌, if◌then◌else◌, Option, Some, None, Result, Ok, Err}
use Rattle.std.specs.List.{AllByRecursion}
use Rattle.ax_address.specs.Callsign.{Callsign, same_call}
use Rattle.circuit_l4.specs.State.{Effect, Out}
use Rattle.circuit_l4.specs.Opening.{facts_of, requesting, responding}
use Rattle.circuit_l4.specs.Table.{Arrive, step}
use Rattle.circuit_l4.specs.declared.facts.EndFacts.{EndFacts}
use Rattle.circuit_l4.specs.declared.notice.EndNotice.{EndNotice}
use Rattle.circuit_l4.specs.declared.pair.Pair.{Pair}
use Rattle.circuit_l4.specs.declared.transport.Transport.{Transport}
use Rattle.circuit_l4.specs.declared.transport.Transport.TheVariants.{Request, Accept, Refuse, Disconnect, Disconnected, Info, InfoAck}
use Rattle.circuit_l4.specs.declared.transport.TransportRefusal.{TransportRefusal}
use Rattle.circuit_table.specs.Sets.{heeds, Act, Connect, ConnectFor, Comes, Calls, Discard, Restart, Call, Holder, SetDone, SetState, CircuitTold, Made, Sent, Heeded, Notice, Gone, Restarted, Lost, end_of, first_open, set_step}
use Rattle.circuit_table.specs.Pumps.{runs}
use Rattle.circuit_table.specs.Sets as s
use Rattle.l3_datagram.specs.Datagrams.{head_at}
use Rattle.l3_datagram.specs.declared.datagram.DatagramHead.{DatagramHead}
use Rattle.l3_datagram.specs.declared.datagram.DatagramRefusal.{DatagramRefusal}
use Rattle.radio_base.specs.declared.modulus.TheConstants.{COUNT_MAX}
use Rattle.node_core.specs.Runs.{MadeFrom}
use Rattle.node_core.proofs.Inputs.{IsInput}

pub record StepOk (old : SetState) (d : SetDone) : Type 0 where
  pub made : MadeFrom old.number d.told d.set.number
  pub own : d.set.own ≡ old.own

same_ok : (t : SetState) → StepOk t (s.does_nothing t)
same_ok t = record { made = refl; own = refl }

-- ---- lists in which nothing is made

made_both : (first : ℕ) (ts us : List CircuitTold) (mid next : ℕ) → MadeFrom first ts mid → MadeFrom mid us next → MadeFrom first (ts ++ us) next
made_both first [] us mid next e m = subst (λ (k : ℕ). MadeFrom k us next) e m
made_both first (Made id pair partner request ∷ ts) us mid next e m = (e.0, made_both (first + 1) ts us mid next e.1 m)
made_both first (Sent id number d ∷ ts) us mid next e m = made_both first ts us mid next e m
made_both first (Heeded id d ∷ ts) us mid next e m = made_both first ts us mid next e m
made_both first (Notice id notice ∷ ts) us mid next e m = made_both first ts us mid next e m
made_both first (Gone id facts ∷ ts) us mid next e m = made_both first ts us mid next e m
made_both first (Restarted pair ∷ ts) us mid next e m = made_both first ts us mid next e m
made_both first (Lost id facts ∷ ts) us mid next e m = made_both first ts us mid next e m

none_sent : (k : ℕ) (t : SetState) (id : ℕ) (at : Callsign) (os : List Out) → MadeFrom k (s.sendings t id at os) k
none_sent k t id at [] = refl
none_sent k t id at (o ∷ os) = none_sent k t id at os

none_noticed : (k id : ℕ) (ns : List EndNotice) → MadeFrom k (s.notices id ns) k
none_noticed k id [] = refl
none_noticed k id (n ∷ ns) = none_noticed k id ns

none_gone : (k id : ℕ) (facts : EndFacts) (b : Bool) → MadeFrom k (if b then Gone id facts ∷ [] else []) k
none_gone k id facts true = refl
none_gone k id facts false = refl

none_heeded : (k id : ℕ) (d : List ℕ) (b : Bool) → MadeFrom k (if b then Heeded id d ∷ [] else []) k
none_heeded k id d true = refl
none_heeded k id d false = refl

none_told : (k : ℕ) (t : SetState) (h : Holder) (g : Effect) → MadeFrom k (s.told_by t h g) k
none_told k t h g =
    let sent : List CircuitTold = s.sendings t h.id h.at g.outs in
    let first = made_both k sent (s.notices h.id g.notes) k k (none_sent k t h.id h.at g.outs) (none_noticed k h.id g.notes) in
    made_both k (sent ++ s.notices h.id g.notes) _ k k first (none_gone k h.id (facts_of g.end) (s.is_over g.end))

-- ---- the steps

goes_ok : (t : SetState) (h : Holder) (first : List CircuitTold) (g : Effect) → MadeFrom t.number first t.number → StepOk t (s.goes_to t h first g)
goes_ok t h first g m = record { made = made_both t.number first (s.told_by t h g) t.number t.number m (none_told t.number t h g); own = refl }

made_ok : (t : SetState) (at : Callsign) (asked : Option Pair) (request : Option (List ℕ)) (g : Effect) → StepOk t (s.makes_end t at asked request g)
made_ok t at asked request g = record { made = (refl, none_told (t.number + 1) t (s.holder_of t at asked g) g); own = refl }

if_ok : (t : SetState) (b : Bool) (x y : SetDone) → StepOk t x → StepOk t y → StepOk t (if b then x else y)
if_ok t true x y p q = p
if_ok t false x y p q = q

found_ok : (t : SetState) (o : Option Holder) (f : Holder → SetDone) (x : SetDone) → ((h : Holder) → StepOk t (f h)) → StepOk t x
    → StepOk t (elim o as (λ z. SetDone) [ Some h ↦ f h | None ↦ x ])
found_ok t (Some h) f x p q = p h
found_ok t None f x p q = q

anew_ok : (t : SetState) (origin : Callsign) (d : List ℕ) (pair : Pair) (window now : ℕ) → StepOk t (s.after_new_request t origin d pair window now)
anew_ok t origin d pair window now =
    if_ok t (s.is_full t) _ _ (record { made = refl; own = refl }) (made_ok t origin (Some pair) (Some d) (responding (s.new_pair t) pair window t.config (min now COUNT_MAX)))

requested_ok : (t : SetState) (origin : Callsign) (d : List ℕ) (pair : Pair) (window now : ℕ) → StepOk t (s.after_request t origin d pair window now)
requested_ok t origin d pair window now =
    found_ok t (first_open (s.opened_by origin pair) t.ends) _ _ (λ h. goes_ok t h [] (s.accept_again h.end) refl) (anew_ok t origin d pair window now)

arrives_ok : (t : SetState) (origin : Callsign) (d : List ℕ) (to : Pair) (x : Transport) (now : ℕ) → StepOk t (s.arrives_at t origin d to x now)
arrives_ok t origin d to x now =
    found_ok t (first_open (s.named_by origin to) t.ends) _ _
    (λ h. goes_ok t h _ (step h.end (Arrive x) now) (none_heeded t.number h.id d (heeds h.end.phase x))) (same_ok t)

received_ok : (t : SetState) (origin : Callsign) (d : List ℕ) (x : Transport) (now : ℕ) → StepOk t (s.after_transport t origin d x now)
received_ok t origin d (Request pair window user node) now = requested_ok t origin d pair window now
received_ok t origin d (Accept to own window) now = arrives_ok t origin d to (Accept to own window) now
received_ok t origin d (Refuse to) now = arrives_ok t origin d to (Refuse to) now
received_ok t origin d (Disconnect to) now = arrives_ok t origin d to (Disconnect to) now
received_ok t origin d (Disconnected to) now = arrives_ok t origin d to (Disconnected to) now
received_ok t origin d (Info to tx rx flags text) now = arrives_ok t origin d to (Info to tx rx flags text) now
received_ok t origin d (InfoAck to rx flags) now = arrives_ok t origin d to (InfoAck to rx flags) now

read_ok : (t : SetState) (origin : Callsign) (d : List ℕ) (r : Result Transport TransportRefusal) (now : ℕ) → StepOk t (s.read_as t origin d r now)
read_ok t origin d (Err e) now = same_ok t
read_ok t origin d (Ok x) now = received_ok t origin d x now

handed_ok : (t : SetState) (d : List ℕ) (r : Result DatagramHead DatagramRefusal) (now : ℕ) → StepOk t (s.after_datagram t d r now)
handed_ok t d (Err e) now = same_ok t
handed_ok t d (Ok head) now =
    if_ok t (same_call head.origin t.own || not (same_call head.dest t.own)) _ _ (same_ok t) (read_ok t head.origin d _ now)

pub connected_ok : (t : SetState) (user dest : Callsign) (now : ℕ) → StepOk t (s.after_connecting_for t user dest now)
connected_ok t user dest now = if_ok t (same_call dest t.own || s.is_full t) _ _ (same_ok t) (made_ok t dest None None (requesting (s.new_pair t) user t.own t.config (min now COUNT_MAX)))

called_ok : (t : SetState) (o : Option Holder) (call : Call) (now : ℕ) → StepOk t (s.after_call t o call now)
called_ok t None call now = same_ok t
called_ok t (Some h) call now = if_ok t h.gone _ _ (same_ok t) (goes_ok t h [] (step h.end (s.input_of call) now) refl)

discarded_ok : (t : SetState) (o : Option Holder) → StepOk t (s.after_discarding t o)
discarded_ok t None = same_ok t
discarded_ok t (Some h) = if_ok t (not h.gone && s.has_ended h.end.phase) _ _ (record { made = refl; own = refl }) (same_ok t)

pub step_ok : (t : SetState) (a : Act) → IsInput a → StepOk t (set_step t a)
step_ok t (Connect dest now) i = connected_ok t t.user dest now
step_ok t (ConnectFor user dest now) i = connected_ok t user dest now
step_ok t (Comes d now) i = handed_ok t d (head_at d) now
step_ok t (Calls id call now) i = called_ok t (end_of id t.ends) call now
step_ok t (Discard id) i = discarded_ok t (end_of id t.ends)
step_ok t (Restart pair more) i = absurd i

-- ---- one input after another

pub runs_ok : (t : SetState) (inputs : List Act) → AllByRecursion IsInput inputs → StepOk t (runs inputs t)
runs_ok t [] is = same_ok t
runs_ok t (a ∷ inputs) is =
    let one = step_ok t a is.0 in
    let rest = runs_ok (set_step t a).set inputs is.1 in
    record { made = made_both t.number (set_step t a).told _ (set_step t a).set.number _ one.made rest.made; own = rest.own ∙ one.own }

-- a step of any kind leaves the call
pub own_stays : (t : SetState) (a : Act) → (set_step t a).set.own ≡ t.own
own_stays t (Connect dest now) = (connected_ok t t.user dest now).own
own_stays t (ConnectFor user dest now) = (connected_ok t user dest now).own
own_stays t (Comes d now) = (handed_ok t d (head_at d) now).own
own_stays t (Calls id call now) = (called_ok t (end_of id t.ends) call now).own
own_stays t (Discard id) = (discarded_ok t (end_of id t.ends)).own
own_stays t (Restart pair more) = refl
