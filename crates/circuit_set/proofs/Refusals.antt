-- A set numbers its ends from 1 on, and refuses under number 0.
use Rattle.std.proofs.Common.{◌≡◌, ◌≤◌, ◌+◌, ℕ, refl, ap, sym, ◌∙◌, subst, arith, List, [], ◌∷◌, ◌++◌}
use Rattle.std.specs.Prelude.{Bool, true, false, not, ◌&&◌, ◌||◌, nat_eq, if◌then◌else◌, drop, min, Option, Some, None, Result, Ok, Err}
use Rattle.radio_base.specs.declared.modulus.TheConstants.{COUNT_MAX}
use Rattle.ax_address.specs.Callsign.{Callsign, IsCallsign, same_call}
use Rattle.ax_address.proofs.NetCallLaws as net_calls
use Rattle.l3_datagram.specs.declared.datagram.DatagramHead.{DatagramHead}
use Rattle.l3_datagram.specs.declared.datagram.DatagramRefusal.{DatagramRefusal}
use Rattle.l3_datagram.specs.Datagrams.{head_at, octets_with}
use Rattle.l3_datagram.proofs.Spelling as datagrams
use Rattle.circuit_l4.specs.declared.pair.Pair.{Pair}
use Rattle.circuit_l4.specs.declared.transport.Transport.{Transport}
use Rattle.circuit_l4.specs.declared.transport.Transport.TheVariants.{Request, Accept, Refuse, Disconnect, Disconnected, Info, InfoAck}
use Rattle.circuit_l4.specs.declared.transport.TransportRefusal.{TransportRefusal}
use Rattle.circuit_l4.specs.Transports.{transport_at, SpellsTransport, transport_octets}
use Rattle.circuit_l4.specs.declared.notice.EndNotice.{EndNotice}
use Rattle.circuit_l4.specs.declared.phase.EndPhase.{EndPhase}
use Rattle.circuit_l4.specs.declared.phase.EndPhase.TheVariants.{Connecting, Up, Closing, Ended}
use Rattle.circuit_l4.specs.State.{Effect, Out}
use Rattle.circuit_l4.specs.Opening.{facts_of, requesting, responding}
use Rattle.circuit_l4.specs.Table.{Arrive, step}
use Rattle.circuit_l4.proofs.Spelling as transports
use Rattle.circuit_table.specs.Sets.{heeds, Call, Calls, Comes, Connect, ConnectFor, Discard, Restart, Gone, Heeded, Holder, Lost, Made, Notice, Restarted, Sent, SetDone, SetState, CircuitTold, accept_again, all_gone, after_call, datagram_to, after_discarding, end_of, first_open, goes_to, hands_to, after_datagram, has_ended, holder_of, input_of, is_open, is_full, is_over, losses, makes_end, named_by, new_pair, notices, opened_by, read_as, after_transport, requests, requests_for, responds, sendings, after_effect, told_by, does_nothing, with_end}
use Rattle.circuit_set.specs.Refusals.{FromOne, IsNumbered, RefusalsAreUnheeded, RefusesUnder0, SetsRefuseUnder0, StartsAreNumbered}
use Rattle.circuit_table.proofs.Origins.{origin_read}

-- ---- the numbers of ends ----
one_of : (id : ℕ) (hs : List Holder) (h : Holder) → FromOne hs → end_of id hs ≡ Some h → 1 ≤ h.id
one_of id [] h f e = absurd (cc e)
one_of id (x ∷ hs) h f e = by (nat_eq x.id id) e (λ q. one_of id hs h f.1 q)
  where
    by : (b : Bool) → (if b then Some x else end_of id hs) ≡ Some h → (end_of id hs ≡ Some h → 1 ≤ h.id) → 1 ≤ h.id
    by true q rest = let same : x ≡ h = cc q in subst (λ (y : Holder). 1 ≤ y.id) same f.0
    by false q rest = rest q

one_open : (test : Holder → Bool) (hs : List Holder) (h : Holder) → FromOne hs → first_open test hs ≡ Some h → 1 ≤ h.id
one_open test [] h f e = absurd (cc e)
one_open test (x ∷ hs) h f e = by (is_open x && test x) e (λ q. one_open test hs h f.1 q)
  where
    by : (b : Bool) → (if b then Some x else first_open test hs) ≡ Some h → (first_open test hs ≡ Some h → 1 ≤ h.id) → 1 ≤ h.id
    by true q rest = let same : x ≡ h = cc q in subst (λ (y : Holder). 1 ≤ y.id) same f.0
    by false q rest = rest q

one_with : (h : Holder) (hs : List Holder) → 1 ≤ h.id → FromOne hs → FromOne (with_end h hs)
one_with h [] one f = tt
one_with h (x ∷ hs) one f = (by (nat_eq x.id h.id), one_with h hs one f.1)
  where
    by : (b : Bool) → 1 ≤ (if b then h else x).id
    by true = one
    by false = f.0

one_more : (h : Holder) (hs : List Holder) → 1 ≤ h.id → FromOne hs → FromOne (hs ++ h ∷ [])
one_more h [] one f = (one, tt)
one_more h (x ∷ hs) one f = (f.0, one_more h hs one f.1)

one_gone : (hs : List Holder) → FromOne hs → FromOne (all_gone hs)
one_gone [] f = tt
one_gone (h ∷ hs) f = (f.0, one_gone hs f.1)

-- ---- what is sent ----
both : (xs ys : List CircuitTold) → RefusesUnder0 xs → RefusesUnder0 ys → RefusesUnder0 (xs ++ ys)
both [] ys p q = q
both (Sent id number d ∷ xs) ys p q = (p.0, both xs ys p.1 q)
both (Made id pair partner request ∷ xs) ys p q = both xs ys p q
both (Heeded id d ∷ xs) ys p q = both xs ys p q
both (Notice id notice ∷ xs) ys p q = both xs ys p q
both (Gone id facts ∷ xs) ys p q = both xs ys p q
both (Restarted pair ∷ xs) ys p q = both xs ys p q
both (Lost id facts ∷ xs) ys p q = both xs ys p q

notices_so : (id : ℕ) (ns : List EndNotice) → RefusesUnder0 (notices id ns)
notices_so id [] = tt
notices_so id (n ∷ ns) = notices_so id ns

losses_so : (hs : List Holder) → RefusesUnder0 (losses hs)
losses_so [] = tt
losses_so (h ∷ hs) = by h.gone (losses_so hs)
  where
    by : (b : Bool) → RefusesUnder0 (losses hs) → RefusesUnder0 (if b then losses hs else Lost h.id (facts_of h.end) ∷ losses hs)
    by true p = p
    by false p = p

heeded_so : (id : ℕ) (d : List ℕ) (b : Bool) → RefusesUnder0 (if b then Heeded id d ∷ [] else [])
heeded_so id d true = tt
heeded_so id d false = tt

-- a refusal is read as one
refusal_read : (s : SetState) (origin : Callsign) (pair : Pair) → IsCallsign s.own.letters s.own.ssid → IsCallsign origin.letters origin.ssid
    → transport_at (drop 15 (datagram_to s origin (Refuse pair))) ≡ Ok (Refuse pair)
refusal_read s origin pair own from =
    let t : Transport = Refuse pair in
    let r : List ℕ = transport_octets t in
    let head : DatagramHead = record { origin = s.own; dest = origin; ttl = s.ttl } in
    let spelled : SpellsTransport t r = transports.written_spells net_calls.written_spells t tt in
    let read = datagrams.spelled_is_read net_calls.spelled_is_read head r (octets_with head r) (datagrams.written_spells net_calls.written_spells head r own from spelled.0.fits) in
    ap transport_at read.1 ∙ transports.spelled_is_read net_calls.spelled_is_read t r spelled

module _ (s : SetState) (n : IsNumbered s) where
  -- so it is of what an input comes to
  abbrev Fine : SetDone → Type 0
  Fine r = IsNumbered r.set × RefusesUnder0 r.told

  stays : Fine (does_nothing s)
  stays = (n, tt)

  sents_so : (id : ℕ) (at : Callsign) (os : List Out) → 1 ≤ id → RefusesUnder0 (sendings s id at os)
  sents_so id at [] one = tt
  sents_so id at (o ∷ os) one = (λ e. absurd (omega (arith, e, one)), sents_so id at os one)

  told_so : (h : Holder) (g : Effect) → 1 ≤ h.id → RefusesUnder0 (told_by s h g)
  told_so h g one =
      both (sendings s h.id h.at g.outs ++ notices h.id g.notes) _ (both (sendings s h.id h.at g.outs) (notices h.id g.notes) (sents_so h.id h.at g.outs one) (notices_so h.id g.notes)) (by (is_over g.end))
    where
      by : (b : Bool) → RefusesUnder0 (if b then Gone h.id (facts_of g.end) ∷ [] else [])
      by true = tt
      by false = tt

  -- an end is another one
  put : (h : Holder) → 1 ≤ h.id → IsNumbered (record s { ends = with_end h s.ends })
  put h one = record { own = n.own; next = n.next; ends = one_with h s.ends one n.ends }

  goes_so : (h : Holder) (first : List CircuitTold) (g : Effect) → 1 ≤ h.id → RefusesUnder0 first → Fine (goes_to s h first g)
  goes_so h first g one p = (put (after_effect h g) one, both first (told_by s h g) p (told_so h g one))

  made_so : (at : Callsign) (asked : Option Pair) (request : Option (List ℕ)) (g : Effect) → Fine (makes_end s at asked request g)
  made_so at asked request g =
      let h : Holder = holder_of s at asked g in
      let next : 1 ≤ s.number = n.next in
      (record { own = n.own; next = omega (arith, next); ends = one_more h s.ends n.next n.ends }, told_so h g n.next)

  either_so : (b : Bool) (r : SetDone) → Fine r → Fine (if b then does_nothing s else r)
  either_so true r p = stays
  either_so false r p = p

  called_so : (id : ℕ) (o : Option Holder) (call : Call) (now : ℕ) → end_of id s.ends ≡ o → Fine (after_call s o call now)
  called_so id None call now e = stays
  called_so id (Some h) call now e =
      either_so h.gone (goes_to s h [] (step h.end (input_of call) now)) (goes_so h [] (step h.end (input_of call) now) (one_of id s.ends h n.ends e) tt)

  discarded_so : (id : ℕ) (o : Option Holder) → end_of id s.ends ≡ o → Fine (after_discarding s o)
  discarded_so id None e = stays
  discarded_so id (Some h) e = by (not h.gone && has_ended h.end.phase)
    where
      by : (b : Bool) → Fine (if b then record { set = record s { ends = with_end (record h { gone = true }) s.ends }; told = Gone h.id (facts_of h.end) ∷ [] } else does_nothing s)
      by true = (put (record h { gone = true }) (one_of id s.ends h n.ends e), tt)
      by false = stays

  again_so : (pair : Pair) (more : ℕ) → IsNumbered (record s { next = pair; number = s.number + more; ends = all_gone s.ends })
  again_so pair more = let next : 1 ≤ s.number = n.next in record { own = n.own; next = omega (arith, next); ends = one_gone s.ends n.ends }

  -- a datagram that comes
  module _ (d : List ℕ) (now : ℕ) where
    anew_so : (origin : Callsign) (pair : Pair) (window : ℕ) → IsCallsign origin.letters origin.ssid → (b : Bool)
        → Fine (if b then record { set = s; told = Sent 0 None (datagram_to s origin (Refuse pair)) ∷ [] } else responds s origin d pair window now)
    anew_so origin pair window from true = (n, ((λ e. record { pair = pair; carried = refusal_read s origin pair n.own from }), tt))
    anew_so origin pair window from false = made_so origin (Some pair) (Some d) (responding (new_pair s) pair window s.config (min now COUNT_MAX))

    requested_so : (origin : Callsign) (pair : Pair) (window : ℕ) → IsCallsign origin.letters origin.ssid → (o : Option Holder) → first_open (opened_by origin pair) s.ends ≡ o
        → Fine (elim o as (λ x. SetDone) [
          | Some h ↦ goes_to s h [] (accept_again h.end)
          | None ↦ if is_full s then record { set = s; told = Sent 0 None (datagram_to s origin (Refuse pair)) ∷ [] } else responds s origin d pair window now
        ])
    requested_so origin pair window from None e = anew_so origin pair window from (is_full s)
    requested_so origin pair window from (Some h) e = goes_so h [] (accept_again h.end) (one_open (opened_by origin pair) s.ends h n.ends e) tt

    arrives_so : (origin : Callsign) (to : Pair) (t : Transport) (o : Option Holder) → first_open (named_by origin to) s.ends ≡ o
        → Fine (elim o as (λ x. SetDone) [ Some h ↦ hands_to s h d t now | None ↦ does_nothing s ])
    arrives_so origin to t None e = stays
    arrives_so origin to t (Some h) e =
        goes_so h (if heeds h.end.phase t then Heeded h.id d ∷ [] else []) (step h.end (Arrive t) now) (one_open (named_by origin to) s.ends h n.ends e) (heeded_so h.id d (heeds h.end.phase t))

    received_so : (origin : Callsign) → IsCallsign origin.letters origin.ssid → (t : Transport) → Fine (after_transport s origin d t now)
    received_so origin from (Request pair window user node) = requested_so origin pair window from (first_open (opened_by origin pair) s.ends) refl
    received_so origin from (Accept to own window) = arrives_so origin to (Accept to own window) (first_open (named_by origin to) s.ends) refl
    received_so origin from (Refuse to) = arrives_so origin to (Refuse to) (first_open (named_by origin to) s.ends) refl
    received_so origin from (Disconnect to) = arrives_so origin to (Disconnect to) (first_open (named_by origin to) s.ends) refl
    received_so origin from (Disconnected to) = arrives_so origin to (Disconnected to) (first_open (named_by origin to) s.ends) refl
    received_so origin from (Info to tx rx flags text) = arrives_so origin to (Info to tx rx flags text) (first_open (named_by origin to) s.ends) refl
    received_so origin from (InfoAck to rx flags) = arrives_so origin to (InfoAck to rx flags) (first_open (named_by origin to) s.ends) refl

    read_so : (origin : Callsign) → IsCallsign origin.letters origin.ssid → (r : Result Transport TransportRefusal) → Fine (read_as s origin d r now)
    read_so origin from (Err why) = stays
    read_so origin from (Ok t) = received_so origin from t

    came_so : (r : Result DatagramHead DatagramRefusal) → head_at d ≡ r → Fine (after_datagram s d r now)
    came_so (Err why) e = stays
    came_so (Ok head) e =
        either_so (same_call head.origin s.own || not (same_call head.dest s.own)) (read_as s head.origin d (transport_at (drop 15 d)) now)
        (read_so head.origin (origin_read d head e) (transport_at (drop 15 d)))

pub sets_refuse_under_0 : SetsRefuseUnder0
sets_refuse_under_0 s n (Connect dest now) =
    either_so s n (same_call dest s.own || is_full s) (requests s dest now) (made_so s n dest None None (requesting (new_pair s) s.user s.own s.config (min now COUNT_MAX)))
sets_refuse_under_0 s n (ConnectFor user dest now) =
    either_so s n (same_call dest s.own || is_full s) (requests_for s user dest now) (made_so s n dest None None (requesting (new_pair s) user s.own s.config (min now COUNT_MAX)))
sets_refuse_under_0 s n (Comes d now) = came_so s n d now (head_at d) refl
sets_refuse_under_0 s n (Calls id call now) = called_so s n id (end_of id s.ends) call now refl
sets_refuse_under_0 s n (Discard id) = discarded_so s n id (end_of id s.ends) refl
sets_refuse_under_0 s n (Restart pair more) = (again_so s n pair more, losses_so s.ends)

pub starts_are_numbered : StartsAreNumbered
starts_are_numbered s start = record { own = start.own; next = start.first; ends = subst FromOne (sym start.none) tt }

-- ---- no refusal is heeded ----
unheeded : (phase : EndPhase) (pair : Pair) → heeds phase (Refuse pair) ≡ true → ⊥
unheeded Connecting pair e = cc
unheeded Up pair e = cc
unheeded Closing pair e = cc
unheeded Ended pair e = cc

pub refusals_are_unheeded : RefusalsAreUnheeded
refusals_are_unheeded s a id d f r =
    let two : Ok f.transport ≡ Ok (Refuse r.pair) = sym f.carried ∙ r.carried in
    let same : f.transport ≡ Refuse r.pair = cc two in
    unheeded f.end.end.phase r.pair (subst (λ (t : Transport). heeds f.end.end.phase t ≡ true) same f.taken_in)
