-- What an input of a set comes to, case by case, where its node doesn't start again.
use Rattle.std.specs.Prelude.{◌≡◌, ℕ, ◌⊎◌, Bool, true, false, not, ◌&&◌, ◌||◌, nat_eq, min, if◌then◌else◌, List, [], ◌∷◌, ◌++◌, drop, Option, Some, None, Result, Ok, Err, refl}
use Rattle.std.proofs.Common.{sym, ◌∙◌, ap, subst, inl, inr, arith}
use Rattle.std.proofs.lemmas.Bool.Decides.{nat_tests}
use Rattle.std.proofs.lemmas.Bool.{and_parts, not-true, not-false}
use Rattle.radio_base.specs.declared.modulus.TheConstants.{COUNT_MAX}
use Rattle.ax_address.specs.Callsign.{Callsign, IsCallsign, same_call}
use Rattle.ax_address.proofs.SameNumbers.{nat_refl, nat_apart}
use Rattle.l3_datagram.specs.declared.datagram.DatagramHead.{DatagramHead}
use Rattle.l3_datagram.specs.declared.datagram.DatagramRefusal.{DatagramRefusal}
use Rattle.l3_datagram.specs.Datagrams.{head_at}
use Rattle.circuit_l4.specs.declared.pair.Pair.{Pair}
use Rattle.circuit_l4.specs.declared.transport.Transport.{Transport}
use Rattle.circuit_l4.specs.declared.transport.Transport.TheVariants.{Request, Accept, Refuse, Disconnect, Disconnected, Info, InfoAck}
use Rattle.circuit_l4.specs.declared.transport.TransportRefusal.{TransportRefusal}
use Rattle.circuit_l4.specs.Transports.{transport_at}
use Rattle.circuit_l4.specs.declared.notice.EndNotice.{EndNotice}
use Rattle.circuit_l4.specs.declared.role.Role.{Role}
use Rattle.circuit_l4.specs.declared.role.Role.TheVariants.{Requester, Responder}
use Rattle.circuit_l4.specs.State.{Effect, State}
use Rattle.circuit_l4.specs.Laws as laws
use Rattle.circuit_l4.specs.Laws.{Accepts, Asks}
use Rattle.circuit_l4.specs.Table.{Arrive, step}
use Rattle.circuit_l4.specs.Opening.{facts_of, requesting, responding}
use Rattle.circuit_table.specs.Sets.{heeds, Act, Call, Writes, Ticks, Closes, Takes, Calls, Comes, Connect, ConnectFor, Discard, Restart, Sent, Heeded, Gone, Holder, SetDone, SetState, accept_again, arrives_at, after_call, datagram_to, after_discarding, end_of, first_open, goes_to, hands_to, after_datagram, has_ended, input_of, is_full, is_open, makes_end, named_by, new_pair, opened_by, read_as, after_transport, after_new_request, requests_for, responds, set_step, does_nothing, with_end}
use Rattle.circuit_set.specs.NotedRuns.{opened_window}
use Rattle.circuit_set.specs.Books.{any_ends}
use Rattle.circuit_table.specs.Givings.{IsUp}
use Rattle.circuit_set.proofs.Acts.{lives_on, lives_same}
use Rattle.circuit_table.proofs.Names.{call_names, AcceptsNone, SameEnd, arrival_same}
use Rattle.circuit_set.proofs.Asks as asking
use Rattle.circuit_set.proofs.Ended.{Ends, SendsOn, accept_opens, step_ends, step_sends_on}
use Rattle.circuit_set.proofs.Invariant.{Lived}
use Rattle.circuit_set.proofs.Lookups.{InEnds, open_found}
use Rattle.circuit_table.proofs.Choices.{Named}
use Rattle.circuit_table.proofs.Origins.{origin_read}

-- ---- the numbers of ends ----
-- none has this number
abbrev pub Apart : ℕ → List Holder → Type 0
Apart id [] = Unit {0}
Apart id (h ∷ hs) = (nat_eq h.id id ≡ false) × Apart id hs

abbrev pub Once : List Holder → Type 0
Once [] = Unit {0}
Once (h ∷ hs) = Apart h.id hs × Once hs

apart_in : (id : ℕ) (h : Holder) (hs : List Holder) → Apart id hs → InEnds h hs → nat_eq h.id id ≡ false
apart_in id h [] a i = absurd i
apart_in id h (x ∷ xs) a (inl e) = subst (λ (k : Holder). nat_eq k.id id ≡ false) (sym e) a.0
apart_in id h (x ∷ xs) a (inr i) = apart_in id h xs a.1 i

-- an end of the set is found by its number
pub found : (h : Holder) (hs : List Holder) → Once hs → InEnds h hs → end_of h.id hs ≡ Some h
found h [] o i = absurd i
found h (x ∷ xs) o (inl e) = subst (λ (k : Holder). end_of k.id (x ∷ xs) ≡ Some k) (sym e) (ap (λ b. if b then Some x else end_of x.id xs) (nat_refl x.id))
found h (x ∷ xs) o (inr i) = ap (λ b. if b then Some x else end_of h.id xs) (nat_apart h.id x.id (apart_in x.id h xs o.0 i)) ∙ found h xs o.1 i

number_case : (id : ℕ) (x h : Holder) (hs : List Holder) (b : Bool) → nat_eq x.id id ≡ b → (if b then Some x else end_of id hs) ≡ Some h → (end_of id hs ≡ Some h → h.id ≡ id) → h.id ≡ id
number_case id x h hs true t e later = let same : x ≡ h = cc in let n : x.id ≡ id = grind (arith, nat_tests) in ap (λ (k : Holder). k.id) (sym same) ∙ n
number_case id x h hs false t e later = later e

pub number_of : (id : ℕ) (h : Holder) (hs : List Holder) → end_of id hs ≡ Some h → h.id ≡ id
number_of id h [] e = cc
number_of id h (x ∷ hs) e = number_case id x h hs (nat_eq x.id id) refl e (number_of id h hs)

-- ---- what an end says ----
accepts_none : (call : Call) → AcceptsNone (input_of call)
accepts_none (Writes m) = tt
accepts_none Ticks = tt
accepts_none Closes = tt
accepts_none Takes = tt

-- it isn't opened, or it has heeded an Accept, and sends to the pair in it
abbrev pub Says : Holder → Bool → List ℕ → Effect → Type 0
Says h heeded d g = SendsOn h.end g ⊎ ((to own : Pair) × (window : ℕ) × (heeded ≡ true) × (transport_at (drop 15 d) ≡ Ok (Accept to own window)) × (g.end.to ≡ own))

other_says : (h : Holder) (d : List ℕ) (t : Transport) (now : ℕ) → AcceptsNone (Arrive t) → Ends h.end (step h.end (Arrive t) now) × Says h (heeds h.end.phase t) d (step h.end (Arrive t) now)
other_says h d t now a = (step_ends h.end (Arrive t) now a, inl (step_sends_on h.end (Arrive t) now a))

arrival_says : (h : Holder) (d : List ℕ) (t : Transport) (now : ℕ) → transport_at (drop 15 d) ≡ Ok t → Ends h.end (step h.end (Arrive t) now) × Says h (heeds h.end.phase t) d (step h.end (Arrive t) now)
arrival_says h d (Accept to own window) now read =
    let o = accept_opens h.end to own window now in
    (o.0, elim o.1 [ inl r ↦ inl r | inr r ↦ inr (to, own, window, ap (λ p. heeds p (Accept to own window)) r.0, read, r.1) ])
arrival_says h d (Refuse to) now read = other_says h d (Refuse to) now refl
arrival_says h d (Request pair window user node) now read = other_says h d (Request pair window user node) now refl
arrival_says h d (Disconnect to) now read = other_says h d (Disconnect to) now refl
arrival_says h d (Disconnected to) now read = other_says h d (Disconnected to) now refl
arrival_says h d (Info to tx rx flags text) now read = other_says h d (Info to tx rx flags text) now refl
arrival_says h d (InfoAck to rx flags) now read = other_says h d (InfoAck to rx flags) now refl

-- what has moved it: a call of it, or a datagram that has come
abbrev pub MovedBy : Act → Holder → Effect → Type 0
MovedBy (Calls id call now) h g = (id ≡ h.id) × (g ≡ step h.end (input_of call) now)
MovedBy (Comes d now) h g = ((t : Transport) × (g ≡ step h.end (Arrive t) now)) ⊎ ((g.end ≡ h.end) × (g.notes ≡ []))
MovedBy (Connect dest now) h g = ⊥
MovedBy (ConnectFor user dest now) h g = ⊥
MovedBy (Discard id) h g = ⊥
MovedBy (Restart pair more) h g = ⊥

-- no end that is held is called
abbrev pub Idle : SetState → Act → Type 0
Idle s (Calls id call now) = (h : Holder) → end_of id s.ends ≡ Some h → h.gone ≡ true
Idle s (Comes d now) = Unit {0}
Idle s (Connect dest now) = Unit {0}
Idle s (ConnectFor user dest now) = Unit {0}
Idle s (Discard id) = Unit {0}
Idle s (Restart pair more) = Unit {0}

-- no end is called
abbrev pub NoCall : Act → Type 0
NoCall (Calls id call now) = ⊥
NoCall (Comes d now) = Unit {0}
NoCall (Connect dest now) = Unit {0}
NoCall (ConnectFor user dest now) = Unit {0}
NoCall (Discard id) = Unit {0}
NoCall (Restart pair more) = Unit {0}

-- it has come here by its inputs
abbrev pub Lives : State → Effect → Type 0
Lives e g = (ns : List EndNotice) → Lived e ns → Lived g.end (ns ++ g.notes)

-- ---- the cases ----
-- a request that has come is another node's
abbrev pub IsForeign : SetState → Option (List ℕ) → Type 0
IsForeign s None = Unit {0}
IsForeign s (Some d) = (head : DatagramHead) × (head_at d ≡ Ok head) × (same_call head.origin s.own ≡ false)

pub record IsNew (s : SetState) (asked : Option Pair) (request : Option (List ℕ)) (g : Effect) : Type 0 where
  pub room : is_full s ≡ false
  pub foreign : IsForeign s request
  pub pair : g.end.pair ≡ new_pair s
  pub lasts : has_ended g.end.phase ≡ false
  pub told : any_ends g.notes ≡ false
  pub asks : asked ≡ None → opened_window g.notes ≡ None
  pub lives : Lived g.end g.notes
  pub born : laws.IsNew g

pub record Cases (s : SetState) (P : SetDone → Type 0) : Type 0 where
  pub rests : P (does_nothing s)
  pub refuses : (d : List ℕ) → P (record { set = s; told = Sent 0 None d ∷ [] })
  pub moves : (h : Holder) (heeded : Bool) (d : List ℕ) (g : Effect) → end_of h.id s.ends ≡ Some h → h.gone ≡ false → SameEnd h.end g.end → Ends h.end g → Says h heeded d g → Lives h.end g
      → P (goes_to s h (if heeded then Heeded h.id d ∷ [] else []) g)
  pub leaves : (h : Holder) → end_of h.id s.ends ≡ Some h → h.gone ≡ false
      → P (record { set = record s { ends = with_end (record h { gone = true }) s.ends }; told = Gone h.id (facts_of h.end) ∷ [] })
  pub makes : (at : Callsign) (asked : Option Pair) (request : Option (List ℕ)) (g : Effect) → IsNew s asked request g → P (makes_end s at asked request g)

-- ---- the cases, with more of what is known in each ----
-- a datagram has come from another node
pub record Comer (s : SetState) (a : Act) (d : List ℕ) : Type 0 where
  pub now : ℕ
  pub came : a ≡ Comes d now
  pub head : DatagramHead
  pub read : head_at d ≡ Ok head
  pub other : same_call head.origin s.own ≡ false
  pub mine : same_call head.dest s.own ≡ true

-- it is a request, for which no end is open
pub record Opener (s : SetState) (a : Act) (at : Callsign) (pair : Pair) (d : List ℕ) : Type 0 where
  pub comer : Comer s a d
  pub origin : comer.head.origin ≡ at
  pub window : ℕ
  pub user : Callsign
  pub node : Callsign
  pub request : transport_at (drop 15 d) ≡ Ok (Request pair window user node)
  pub none : first_open (opened_by comer.head.origin pair) s.ends ≡ None

-- a circuit was asked for with this node, for the set's user or for another one
abbrev pub AskedFor : SetState → Act → Callsign → Callsign → Type 0
AskedFor s a user at = (now : ℕ) × (((a ≡ Connect at now) × (user ≡ s.user)) ⊎ (a ≡ ConnectFor user at now))

pub asked_quiet : (s : SetState) (a : Act) (user at : Callsign) → AskedFor s a user at → NoCall a
asked_quiet s a user at (now, inl by) = subst NoCall (sym by.0) tt
asked_quiet s a user at (now, inr by) = subst NoCall (sym by) tt

-- a circuit was asked for with this node, or such a request has come from it
abbrev pub MadeBy : SetState → Act → Callsign → Role → Option Pair → Option (List ℕ) → Type 0
MadeBy s a at role None None = (user : Callsign) × AskedFor s a user at × (role ≡ Requester user s.own)
MadeBy s a at role (Some pair) (Some d) = Opener s a at pair d × (role ≡ Responder)
MadeBy s a at role _ _ = ⊥

pub record Every (s : SetState) (a : Act) (P : SetDone → Type 0) : Type 0 where
  pub rests : Idle s a → P (does_nothing s)
  pub refuses : (at : Callsign) (pair : Pair) → IsCallsign at.letters at.ssid → NoCall a → P (record { set = s; told = Sent 0 None (datagram_to s at (Refuse pair)) ∷ [] })
  pub moves : (h : Holder) (heeded : Bool) (d : List ℕ) (g : Effect) → end_of h.id s.ends ≡ Some h → h.gone ≡ false → SameEnd h.end g.end → Ends h.end g → Says h heeded d g → Lives h.end g
      → asking.Asks h.end g.outs → MovedBy a h g → P (goes_to s h (if heeded then Heeded h.id d ∷ [] else []) g)
  pub leaves : (h : Holder) → end_of h.id s.ends ≡ Some h → h.gone ≡ false → has_ended h.end.phase ≡ true → NoCall a
      → P (record { set = record s { ends = with_end (record h { gone = true }) s.ends }; told = Gone h.id (facts_of h.end) ∷ [] })
  pub makes : (at : Callsign) (asked : Option Pair) (request : Option (List ℕ)) (g : Effect) → IsNew s asked request g → MadeBy s a at g.end.role asked request → asking.Asks g.end g.outs
      → P (makes_end s at asked request g)

either_done : (P : SetDone → Type 0) (b : Bool) (x y : SetDone) → P x → P y → P (if b then x else y)
either_done P true x y p q = p
either_done P false x y p q = q

module _ (s : SetState) (one : (h : Holder) → InEnds h s.ends → end_of h.id s.ends ≡ Some h) (a : Act) (P : SetDone → Type 0) (k : Every s a P) where
  -- ---- calls ----
  gone_one : (id : ℕ) (h j : Holder) → end_of id s.ends ≡ Some h → h.gone ≡ true → end_of id s.ends ≡ Some j → j.gone ≡ true
  gone_one id h j there e q = let two : Some h ≡ Some j = sym there ∙ q in let same : h ≡ j = cc two in subst (λ (x : Holder). x.gone ≡ true) same e

  call_case : (h : Holder) (call : Call) (now : ℕ) (b : Bool) → a ≡ Calls h.id call now → h.gone ≡ b → end_of h.id s.ends ≡ Some h → P (if b then does_nothing s else goes_to s h [] (step h.end (input_of call) now))
  call_case h call now true i e there = k.rests (subst (Idle s) (sym i) (λ j q. gone_one h.id h j there e q))
  call_case h call now false i e there =
      let names = call_names h.end call now in
      let same : SameEnd h.end (step h.end (input_of call) now).end = record { role = ap (λ (n : Named). n.role) names; pair = ap (λ (n : Named). n.pair) names; config = ap (λ (n : Named). n.config) names } in
      k.moves h false [] (step h.end (input_of call) now) there e same (step_ends h.end (input_of call) now (accepts_none call)) (inl (step_sends_on h.end (input_of call) now (accepts_none call)))
      (λ ns l. lives_on h.end ns (input_of call) now l) (asking.step_asks h.end (input_of call) now)
      (subst (λ (b : Act). MovedBy b h (step h.end (input_of call) now)) (sym i) (refl, refl))

  called_so : (id : ℕ) (call : Call) (now : ℕ) (o : Option Holder) → a ≡ Calls id call now → end_of id s.ends ≡ o → P (after_call s o call now)
  called_so id call now None i e = k.rests (subst (Idle s) (sym i) (λ j q. let bad : None ≡ Some j = sym e ∙ q in absurd (cc bad)))
  called_so id call now (Some h) i e =
      let number : h.id ≡ id = number_of id h s.ends e in
      call_case h call now h.gone (i ∙ ap (λ n. Calls n call now) (sym number)) refl (ap (λ i. end_of i s.ends) number ∙ e)

  discard_case : (h : Holder) (b : Bool) → Idle s a → NoCall a → (not h.gone && has_ended h.end.phase) ≡ b → end_of h.id s.ends ≡ Some h
      → P (if b then record { set = record s { ends = with_end (record h { gone = true }) s.ends }; told = Gone h.id (facts_of h.end) ∷ [] } else does_nothing s)
  discard_case h false i none e there = k.rests i
  discard_case h true i none e there = let r = and_parts (not h.gone) (has_ended h.end.phase) e in k.leaves h there (not-true h.gone r.0) r.1 none

  discard_so : (id : ℕ) (o : Option Holder) → Idle s a → NoCall a → end_of id s.ends ≡ o → P (after_discarding s o)
  discard_so id None i none e = k.rests i
  discard_so id (Some h) i none e = discard_case h (not h.gone && has_ended h.end.phase) i none refl (ap (λ i. end_of i s.ends) (number_of id h s.ends e) ∙ e)

  -- ---- what comes ----
  open_one : (test : Holder → Bool) (h : Holder) → first_open test s.ends ≡ Some h → (end_of h.id s.ends ≡ Some h) × (h.gone ≡ false)
  open_one test h e =
      let f = open_found test h s.ends e in
      let lasts : is_open h ≡ true = (and_parts (is_open h) (test h) f.1).0 in
      (one h f.0, not-true h.gone (and_parts (not h.gone) (not (has_ended h.end.phase)) lasts).0)

  module _ (d : List ℕ) (c : Comer s a d) where
    idle : Idle s a
    idle = subst (Idle s) (sym c.came) tt

    arrives_case : (to : Pair) (t : Transport) (o : Option Holder) → transport_at (drop 15 d) ≡ Ok t → first_open (named_by c.head.origin to) s.ends ≡ o
        → P (elim o as (λ x. SetDone) [ Some h ↦ hands_to s h d t c.now | None ↦ does_nothing s ])
    arrives_case to t None read e = k.rests idle
    arrives_case to t (Some h) read e =
        let f = open_one (named_by c.head.origin to) h e in
        let says = arrival_says h d t c.now read in
        k.moves h (heeds h.end.phase t) d (step h.end (Arrive t) c.now) f.0 f.1 (arrival_same h.end t c.now) says.0 says.1 (λ ns l. lives_on h.end ns (Arrive t) c.now l) (asking.step_asks h.end (Arrive t) c.now)
        (subst (λ (b : Act). MovedBy b h (step h.end (Arrive t) c.now)) (sym c.came) (inl (t, refl)))

    arrives_so : (to : Pair) (t : Transport) → transport_at (drop 15 d) ≡ Ok t → P (arrives_at s c.head.origin d to t c.now)
    arrives_so to t read = arrives_case to t (first_open (named_by c.head.origin to) s.ends) read refl

    anew_case : (pair : Pair) (window : ℕ) (b : Bool) → is_full s ≡ b → Opener s a c.head.origin pair d
        → P (if b then record { set = s; told = Sent 0 None (datagram_to s c.head.origin (Refuse pair)) ∷ [] } else responds s c.head.origin d pair window c.now)
    anew_case pair window true e o = k.refuses c.head.origin pair (origin_read d c.head c.read) (subst NoCall (sym c.came) tt)
    anew_case pair window false e o =
        let g : Effect = responding (new_pair s) pair window s.config (min c.now COUNT_MAX) in
        k.makes c.head.origin (Some pair) (Some d) g (record {
          room = e;
          foreign = (c.head, c.read, c.other);
          pair = refl;
          lasts = refl;
          told = refl;
          asks = λ e. cc;
          lives = record { first = g; new = Accepts (new_pair s) pair window s.config (min c.now COUNT_MAX); inputs = []; end = refl; notes_are = refl };
          born = Accepts (new_pair s) pair window s.config (min c.now COUNT_MAX);
        }) (o, refl) ((refl, refl), tt)

    requested_case : (pair : Pair) (window : ℕ) (user node : Callsign) (o : Option Holder) → first_open (opened_by c.head.origin pair) s.ends ≡ o → transport_at (drop 15 d) ≡ Ok (Request pair window user node)
        → P (elim o as (λ x. SetDone) [ Some h ↦ goes_to s h [] (accept_again h.end) | None ↦ after_new_request s c.head.origin d pair window c.now ])
    requested_case pair window user node None e read =
        anew_case pair window (is_full s) refl (record { comer = c; origin = refl; window = window; user = user; node = node; request = read; none = e })
    requested_case pair window user node (Some h) e read =
        let o = open_one (opened_by c.head.origin pair) h e in
        k.moves h false [] (accept_again h.end) o.0 o.1 (record { role = refl; pair = refl; config = refl }) (record { told = λ e. cc; stays = λ e. e; says = λ e. inl e }) (inl (record { unopened = refl; to = refl }))
        (λ ns l. lives_same h.end ns l) ((refl, refl), tt) (subst (λ (b : Act). MovedBy b h (accept_again h.end)) (sym c.came) (inr (refl, refl)))

    received_so : (t : Transport) → transport_at (drop 15 d) ≡ Ok t → P (after_transport s c.head.origin d t c.now)
    received_so (Request pair window user node) read = requested_case pair window user node (first_open (opened_by c.head.origin pair) s.ends) refl read
    received_so (Accept to own window) read = arrives_so to (Accept to own window) read
    received_so (Refuse to) read = arrives_so to (Refuse to) read
    received_so (Disconnect to) read = arrives_so to (Disconnect to) read
    received_so (Disconnected to) read = arrives_so to (Disconnected to) read
    received_so (Info to tx rx flags text) read = arrives_so to (Info to tx rx flags text) read
    received_so (InfoAck to rx flags) read = arrives_so to (InfoAck to rx flags) read

    read_so : (r : Result Transport TransportRefusal) → transport_at (drop 15 d) ≡ r → P (read_as s c.head.origin d r c.now)
    read_so (Err e) read = k.rests idle
    read_so (Ok t) read = received_so t read

  handed_case : (d : List ℕ) (head : DatagramHead) (now : ℕ) (v w : Bool) → a ≡ Comes d now → head_at d ≡ Ok head → same_call head.origin s.own ≡ v → not (same_call head.dest s.own) ≡ w
      → P (if v || w then does_nothing s else read_as s head.origin d (transport_at (drop 15 d)) now)
  handed_case d head now true w i e f g = k.rests (subst (Idle s) (sym i) tt)
  handed_case d head now false true i e f g = k.rests (subst (Idle s) (sym i) tt)
  handed_case d head now false false i e f g =
      read_so d (record { now = now; came = i; head = head; read = e; other = f; mine = not-false (same_call head.dest s.own) g }) (transport_at (drop 15 d)) refl

  handed_so : (d : List ℕ) (r : Result DatagramHead DatagramRefusal) (now : ℕ) → a ≡ Comes d now → head_at d ≡ r → P (after_datagram s d r now)
  handed_so d (Err e) now i h = k.rests (subst (Idle s) (sym i) tt)
  handed_so d (Ok head) now i h = handed_case d head now (same_call head.origin s.own) (not (same_call head.dest s.own)) i h refl refl

  connected_case : (user dest : Callsign) (now : ℕ) (v w : Bool) → Idle s a → AskedFor s a user dest → is_full s ≡ w → P (if v || w then does_nothing s else requests_for s user dest now)
  connected_case user dest now true w i by e = k.rests i
  connected_case user dest now false true i by e = k.rests i
  connected_case user dest now false false i by e =
      let g : Effect = requesting (new_pair s) user s.own s.config (min now COUNT_MAX) in
      k.makes dest None None g (record {
        room = e;
        foreign = tt;
        pair = refl;
        lasts = refl;
        told = refl;
        asks = λ e. refl;
        lives = record { first = g; new = Asks (new_pair s) user s.own s.config (min now COUNT_MAX); inputs = []; end = refl; notes_are = refl };
        born = Asks (new_pair s) user s.own s.config (min now COUNT_MAX);
      }) (user, by, refl) ((refl, refl, refl, refl), tt)

  step_by : (b : Act) → a ≡ b → IsUp b → P (set_step s b)
  step_by (Connect dest now) e up = connected_case s.user dest now (same_call dest s.own) (is_full s) (subst (Idle s) (sym e) tt) (now, inl (e, refl)) refl
  step_by (ConnectFor user dest now) e up = connected_case user dest now (same_call dest s.own) (is_full s) (subst (Idle s) (sym e) tt) (now, inr e) refl
  step_by (Comes d now) e up = handed_so d (head_at d) now e refl
  step_by (Calls id call now) e up = called_so id call now (end_of id s.ends) e refl
  step_by (Discard id) e up = discard_so id (end_of id s.ends) (subst (Idle s) (sym e) tt) (subst NoCall (sym e) tt) refl
  step_by (Restart pair more) e up = absurd up

  pub step_every : IsUp a → P (set_step s a)
  step_every up = step_by a refl up

pub step_cases : (s : SetState) → ((h : Holder) → InEnds h s.ends → end_of h.id s.ends ≡ Some h) → (P : SetDone → Type 0) → Cases s P → (a : Act) → IsUp a → P (set_step s a)
step_cases s one P k a =
    step_every s one a P (record {
      rests = λ idle. k.rests;
      refuses = λ at pair call none. k.refuses (datagram_to s at (Refuse pair));
      moves = λ h heeded d g there held same ends says lives asks by. k.moves h heeded d g there held same ends says lives;
      leaves = λ h there held ended none. k.leaves h there held;
      makes = λ at asked request g new by asks. k.makes at asked request g new;
    })
