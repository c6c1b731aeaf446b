-- The origin of a datagram is the node that sent it; and who tells of circuits is a node of the network.
use Rattle.std.proofs.Common.{◌≡◌, ◌∙◌, ◌+◌, ◌-◌, ◌*◌, ℕ, refl, sym, ap, subst, arith, List, [], ◌∷◌, ◌++◌, length, map, take, append_assoc, replicate, Bool, true, false}
use Rattle.std.specs.Prelude.{◌&&◌, nat_lt, slice_get, slice_index, if◌then◌else◌, Option, Some, None, Result, Ok, Err}
use Rattle.std.specs.Cmp.Lexicographic.{same_text}
use Rattle.std.specs.List.{AllByRecursion, position_or_len}
use Rattle.std.proofs.lemmas.List.{length-append, length-map, length-replicate, take-take, take_at}
use Rattle.ax_address.specs.Callsign.{Callsign, name_in}
use Rattle.ax_address.specs.Octets.{SpelledNetCallIsRead, WrittenNetCallSpellsIt, net_call_at, net_call_octets}
use Rattle.ax_address.specs.declared.address_refusal.AddressRefusal.{AddressRefusal}
use Rattle.ax_address.specs.Results.{◌>>=◌}
use Rattle.circuit_table.specs.Events.{is_copy}
use Rattle.circuit_table.specs.Events as set_events
use Rattle.circuit_table.specs.Pumps as pumps
use Rattle.circuit_set.specs.Sendings.{IsFrom}
use Rattle.circuit_table.specs.Sets as sets
use Rattle.circuit_table.specs.Sets.{CircuitTold}
use Rattle.l3_datagram.specs.Datagrams.{call_from, fault_from, head_at, octets_with}
use Rattle.l3_datagram.specs.declared.datagram.DatagramHead.{DatagramHead}
use Rattle.l3_datagram.specs.declared.datagram.DatagramRefusal.{DatagramRefusal}
use Rattle.l3_datagram.specs.declared.datagram.DatagramRefusal.TheVariants.{Short, TooLong}
use Rattle.link_table.specs.Reaching.{IsCall}
use Rattle.network_file.specs.declared.plan.declarations.Declaration.{Declaration}
use Rattle.node_model.specs.States as states
use Rattle.net_model.specs.Circuits.{CircuitEvent}
use Rattle.net_model.specs.Events as events
use Rattle.net_model.specs.Events.{Event, NumberedEvent}
use Rattle.net_model.proofs.Containing.{at_name, event_by, events_by, told_by}
use Rattle.net_laws.proofs.Lists.{both, one_of}
use Rattle.net_model.specs.Starting.{has_number}

-- ---- the origin that is read

call_length : (c : Callsign) → IsCall c → length (net_call_octets c) ≡ 7
call_length c i =
    let few = i.six in
    let blank : ℕ = 32 in
    let letters : length c.letters ≡ 6 =
    ap length i.spaces
    ∙ (let a = length-append (name_in c.letters) (replicate (6 - length (name_in c.letters)) blank) in let b = length-replicate (6 - length (name_in c.letters)) blank in omega (arith, a, b, few)) in
    let d = length-append (map (λ b. 2 * b) c.letters) ((96 + 2 * c.ssid) ∷ []) in
    let e = length-map c.letters (λ b. 2 * b) in
    omega (arith, letters, d, e)

first_true : (a b c d : Bool) → (a && b && c && d) ≡ true → a ≡ true
first_true true b c d e = refl
first_true false b c d e = absurd (cc e)

front_is : (own : Callsign) (ttl : ℕ) (sent d : List ℕ) → IsCall own → IsFrom own ttl sent → is_copy d sent ≡ true → take 7 d ≡ net_call_octets own
front_is own ttl sent d c f e =
    let front : take 14 d ≡ take 14 sent = same_text (take 14 d) (take 14 sent) (sym (first_true _ _ _ _ e)) in
    let whole = octets_with (record { origin = own; dest = f.dest; ttl = ttl }) f.transport in
    sym (take-take 7 14 d (omega arith)) ∙ (ap (take 7) front ∙ (take-take 7 14 sent (omega arith)
    ∙ (ap (take 7) (f.are ∙ append_assoc (net_call_octets own) (net_call_octets f.dest) (ttl ∷ f.transport)) ∙ take_at (net_call_octets own) (net_call_octets f.dest ++ ttl ∷ f.transport) 7 (call_length own c))))

unfault : (r : Result Callsign AddressRefusal) (c : Callsign) → fault_from 0 r ≡ Ok c → r ≡ Ok c
unfault (Ok x) c e = let same : x ≡ c = cc e in ap Ok same
unfault (Err why) c e = absurd (cc e)

calls_are : (octets : List ℕ) (head : DatagramHead) (origin dest : Result Callsign DatagramRefusal)
    → (origin >>= λ o. dest >>= λ d. Ok (record { origin = o; dest = d; ttl = slice_index octets 14 })) ≡ Ok head → origin ≡ Ok head.origin
calls_are octets head (Ok o) (Ok d) e = let same : (record { origin = o; dest = d; ttl = slice_index octets 14 }) ≡ head = cc e in ap (λ (h : DatagramHead). Ok h.origin) same
calls_are octets head (Ok o) (Err r) e = absurd (cc e)
calls_are octets head (Err r) dest e = absurd (cc e)

origin_by : (octets : List ℕ) (head : DatagramHead) (low high : Bool)
    → ((if low then Err (Short (length octets)) else (if high then Err TooLong else Ok octets)) >>= λ whole.
    call_from 0 whole >>= λ o. call_from 7 whole >>= λ d. Ok (record { origin = o; dest = d; ttl = slice_index whole 14 })) ≡ Ok head → call_from 0 octets ≡ Ok head.origin
origin_by octets head true high e = absurd (cc e)
origin_by octets head false true e = absurd (cc e)
origin_by octets head false false e = calls_are octets head (call_from 0 octets) (call_from 7 octets) e

origin_read : (octets : List ℕ) (head : DatagramHead) → head_at octets ≡ Ok head → net_call_at (take 7 octets) ≡ Ok head.origin
unfolding head_at
origin_read octets head e = unfault (net_call_at (take 7 octets)) head.origin (origin_by octets head (nat_lt (length octets) 15) (nat_lt 256 (length octets)) e)

pub origin_is : WrittenNetCallSpellsIt → SpelledNetCallIsRead → (own : Callsign) (ttl : ℕ) (sent d : List ℕ) (head : DatagramHead) → IsCall own → IsFrom own ttl sent → is_copy d sent ≡ true → head_at d ≡ Ok head → head.origin ≡ own
origin_is written read own ttl sent d head c f e h =
    let both_read : Ok head.origin ≡ Ok own = sym (origin_read d head h) ∙ (ap net_call_at (front_is own ttl sent d c f e) ∙ read own (net_call_octets own) (written own c)) in
    cc both_read

-- ---- who tells of circuits

-- what holds of all that the nodes tell
module _ (P : CircuitEvent → Type 0) (ds : List Declaration) (each : (line k : ℕ) (d : Declaration) (told : CircuitTold) → slice_get ds k ≡ Some d → P (record { line = line; event = record { node = k; own = d.call; told = told } })) where
  name_all : (line k : ℕ) (told : CircuitTold) (o : Option Declaration) → slice_get ds k ≡ o → AllByRecursion P (at_name line k o told)
  name_all line k told None e = tt
  name_all line k told (Some d) e = (each line k d told e, tt)

  told_all : (line number : ℕ) (told : CircuitTold) → AllByRecursion P (told_by ds line number told)
  told_all line number told = let k : ℕ = position_or_len (has_number number) ds in name_all line k told (slice_get ds k) refl

  event_all : (line : ℕ) (e : Event) → AllByRecursion P (event_by ds line e)
  event_all line (events.Entry node (states.Of_set (pumps.Of told))) = told_all line node told
  event_all line (events.Entry node (states.Of_set (pumps.Dropped routed))) = tt
  event_all line (events.Entry node (states.Of_set (pumps.Lost call))) = tt
  event_all line (events.Entry node (states.Of_link peer notice)) = tt
  event_all line (events.Entry node (states.Overflow live would_be)) = tt
  event_all line (events.Restarted node pair) = told_all line node (sets.Restarted pair)
  event_all line (events.Lost node end facts) = told_all line node (sets.Lost end facts)
  event_all line other = tt

  events_all : (es : List NumberedEvent) → AllByRecursion P (events_by ds es)
  events_all [] = tt
  events_all (e ∷ es) = both P (event_by ds e.line e.event) (events_by ds es) (event_all e.line e.event) (events_all es)

plain_all : (Q : set_events.Event → Type 0) (es : List CircuitEvent) → AllByRecursion (λ (e : CircuitEvent). Q e.event) es → AllByRecursion Q (map (λ (e : CircuitEvent). e.event) es)
plain_all Q [] a = tt
plain_all Q (e ∷ es) a = (a.0, plain_all Q es a.1)

-- all that is told of circuits is told by calls
pub told_by_calls : (ds : List Declaration) (es : List NumberedEvent) (ts : List set_events.Event) → AllByRecursion (λ (d : Declaration). IsCall d.call) ds
    → map (λ (e : CircuitEvent). e.event) (events_by ds es) ≡ ts → AllByRecursion (λ (e : set_events.Event). IsCall e.own) ts
told_by_calls ds es ts a e =
    subst (AllByRecursion (λ (x : set_events.Event). IsCall x.own)) e
    (plain_all (λ (x : set_events.Event). IsCall x.own) (events_by ds es) (events_all (λ (x : CircuitEvent). IsCall x.event.own) ds (λ line k d told f. one_of (λ (x : Declaration). IsCall x.call) ds k d a f) es))

-- and by the nodes at their places
abbrev pub IsNamed : List Declaration → set_events.Event → Type 0
IsNamed ds e = (d : Declaration) × (slice_get ds e.node ≡ Some d) × (e.own ≡ d.call)

pub told_by_names : (ds : List Declaration) (es : List NumberedEvent) (ts : List set_events.Event) → map (λ (e : CircuitEvent). e.event) (events_by ds es) ≡ ts → AllByRecursion (IsNamed ds) ts
told_by_names ds es ts e =
    subst (AllByRecursion (IsNamed ds)) e (plain_all (IsNamed ds) (events_by ds es) (events_all (λ (x : CircuitEvent). IsNamed ds x.event) ds (λ line k d told f. (d, f, refl)) es))
