-- What a set heeds is from the partner of an end that it holds, and for that end.
use Rattle.std.proofs.Common.{◌≡◌, ℕ, suc, refl, arith, subst, List, [], ◌∷◌, ◌++◌}
use Rattle.std.specs.Prelude.{Contains, Bool, true, false, not, ◌&&◌, ◌||◌, if◌then◌else◌, drop, min, Option, Some, None, Result, Ok, Err}
use Rattle.std.proofs.lemmas.Bool.{and_parts}
use Rattle.radio_base.specs.declared.modulus.TheConstants.{COUNT_MAX}
use Rattle.ax_address.specs.Callsign.{Callsign, same_call}
use Rattle.l3_datagram.specs.declared.datagram.DatagramHead.{DatagramHead}
use Rattle.l3_datagram.specs.declared.datagram.DatagramRefusal.{DatagramRefusal}
use Rattle.l3_datagram.specs.Datagrams.{head_at}
use Rattle.circuit_l4.specs.declared.pair.Pair.{Pair}
use Rattle.circuit_l4.specs.declared.transport.Transport.{Transport}
use Rattle.circuit_l4.specs.declared.transport.Transport.TheVariants.{Request, Accept, Refuse, Disconnect, Disconnected, Info, InfoAck}
use Rattle.circuit_l4.specs.declared.transport.TransportRefusal.{TransportRefusal}
use Rattle.circuit_l4.specs.Transports.{transport_at}
use Rattle.circuit_l4.specs.declared.notice.EndNotice.{EndNotice}
use Rattle.circuit_l4.specs.State.{Effect, Out}
use Rattle.circuit_l4.specs.Opening.{facts_of, requesting, responding}
use Rattle.circuit_l4.specs.Table.{Arrive, step}
use Rattle.circuit_table.specs.Sets.{heeds, Act, Call, Calls, Comes, Connect, ConnectFor, Discard, Restart, Gone, Heeded, Holder, Lost, Made, Notice, Restarted, Sent, SetDone, SetState, CircuitTold, accept_again, after_call, datagram_to, after_discarding, end_of, first_open, goes_to, hands_to, after_datagram, has_ended, holder_of, is_open, input_of, is_full, is_over, losses, makes_end, named_by, new_pair, notices, opened_by, read_as, after_transport, after_new_request, requests, requests_for, responds, sendings, told_by, does_nothing, with_end}
use Rattle.circuit_set.specs.Heedings.{HeedsFor, SetsHeedPartners, pair_named}

-- an open end that is found is held, and as it was looked for
open_is : (test : Holder → Bool) (hs : List Holder) (h : Holder) → first_open test hs ≡ Some h → Contains hs h × (test h ≡ true)
open_is test [] h e = absurd (cc e)
open_is test (x ∷ hs) h e = by (is_open x && test x) refl e (open_is test hs h)
  where
    by : (b : Bool) → (is_open x && test x) ≡ b → (if b then Some x else first_open test hs) ≡ Some h → (first_open test hs ≡ Some h → Contains hs h × (test h ≡ true)) → Contains (x ∷ hs) h × (test h ≡ true)
    by true t q rest =
        let same : x ≡ h = cc q in
        subst (λ (y : Holder). Contains (x ∷ hs) y × (test y ≡ true)) same ((0, omega arith, refl), (and_parts (is_open x) (test x) t).1)
    by false t q rest =
        let r = rest q in
        let low = r.0.1 in
        ((suc r.0.0, omega (arith, low), r.0.2), r.1)

module _ (s : SetState) (a : Act) where
  abbrev For : List CircuitTold → Type 0
  For ts = HeedsFor s a ts

  both : (xs ys : List CircuitTold) → For xs → For ys → For (xs ++ ys)
  both [] ys p q = q
  both (Heeded id d ∷ xs) ys p q = (p.0, both xs ys p.1 q)
  both (Made id pair partner request ∷ xs) ys p q = both xs ys p q
  both (Sent id number d ∷ xs) ys p q = both xs ys p q
  both (Notice id notice ∷ xs) ys p q = both xs ys p q
  both (Gone id facts ∷ xs) ys p q = both xs ys p q
  both (Restarted pair ∷ xs) ys p q = both xs ys p q
  both (Lost id facts ∷ xs) ys p q = both xs ys p q

  sents_for : (id : ℕ) (at : Callsign) (os : List Out) → For (sendings s id at os)
  sents_for id at [] = tt
  sents_for id at (o ∷ os) = sents_for id at os

  notices_for : (id : ℕ) (ns : List EndNotice) → For (notices id ns)
  notices_for id [] = tt
  notices_for id (n ∷ ns) = notices_for id ns

  told_for : (h : Holder) (g : Effect) → For (told_by s h g)
  told_for h g =
      both (sendings s h.id h.at g.outs ++ notices h.id g.notes) _ (both (sendings s h.id h.at g.outs) (notices h.id g.notes) (sents_for h.id h.at g.outs) (notices_for h.id g.notes)) (by (is_over g.end))
    where
      by : (b : Bool) → HeedsFor s a (if b then Gone h.id (facts_of g.end) ∷ [] else [])
      by true = tt
      by false = tt

  goes_for : (h : Holder) (first : List CircuitTold) (g : Effect) → For first → For (goes_to s h first g).told
  goes_for h first g p = both first (told_by s h g) p (told_for h g)

  made_for : (at : Callsign) (asked : Option Pair) (request : Option (List ℕ)) (g : Effect) → For (makes_end s at asked request g).told
  made_for at asked request g = told_for (holder_of s at asked g) g

  either_for : (b : Bool) (r : SetDone) → For r.told → For (if b then does_nothing s else r).told
  either_for true r p = tt
  either_for false r p = p

  called_for : (o : Option Holder) (call : Call) (now : ℕ) → For (after_call s o call now).told
  called_for None call now = tt
  called_for (Some h) call now = either_for h.gone (goes_to s h [] (step h.end (input_of call) now)) (goes_for h [] (step h.end (input_of call) now) tt)

  discarded_for : (o : Option Holder) → For (after_discarding s o).told
  discarded_for None = tt
  discarded_for (Some h) = by (not h.gone && has_ended h.end.phase)
    where
      by : (b : Bool) → HeedsFor s a (if b then record { set = record s { ends = with_end (record h { gone = true }) s.ends }; told = Gone h.id (facts_of h.end) ∷ [] } else does_nothing s).told
      by true = tt
      by false = tt

  losses_for : (hs : List Holder) → For (losses hs)
  losses_for [] = tt
  losses_for (h ∷ hs) = by h.gone (losses_for hs)
    where
      by : (b : Bool) → HeedsFor s a (losses hs) → HeedsFor s a (if b then losses hs else Lost h.id (facts_of h.end) ∷ losses hs)
      by true p = p
      by false p = p

-- a datagram that comes
module _ (s : SetState) (d : List ℕ) (now : ℕ) where
  abbrev Came : List CircuitTold → Type 0
  Came ts = HeedsFor s (Comes d now) ts

  anew_for : (origin : Callsign) (pair : Pair) (window : ℕ) (b : Bool)
      → Came (if b then record { set = s; told = Sent 0 None (datagram_to s origin (Refuse pair)) ∷ [] } else responds s origin d pair window now).told
  anew_for origin pair window true = tt
  anew_for origin pair window false = made_for s (Comes d now) origin (Some pair) (Some d) (responding (new_pair s) pair window s.config (min now COUNT_MAX))

  requested_for : (origin : Callsign) (pair : Pair) (window : ℕ) (o : Option Holder)
      → Came (elim o as (λ x. SetDone) [ Some h ↦ goes_to s h [] (accept_again h.end) | None ↦ after_new_request s origin d pair window now ]).told
  requested_for origin pair window None = anew_for origin pair window (is_full s)
  requested_for origin pair window (Some h) = goes_for s (Comes d now) h [] (accept_again h.end) tt

  module _ (head : DatagramHead) (read : head_at d ≡ Ok head) (t : Transport) (carried : transport_at (drop 15 d) ≡ Ok t) where
    heeded_for : (to : Pair) (h : Holder) (b : Bool) → heeds h.end.phase t ≡ b → pair_named t ≡ Some to → Contains s.ends h × (named_by head.origin to h ≡ true)
        → Came (if b then Heeded h.id d ∷ [] else [])
    heeded_for to h true e n f = (
      record { now = now; came = refl; end = h; held = f.0; number = refl; head = head; read = read; transport = t; carried = carried; pair = to; names = n; partner = f.1; taken_in = e },
      tt,
    )
    heeded_for to h false e n f = tt

    arrives_by : (to : Pair) (o : Option Holder) → first_open (named_by head.origin to) s.ends ≡ o → pair_named t ≡ Some to → Came (elim o as (λ x. SetDone) [ Some h ↦ hands_to s h d t now | None ↦ does_nothing s ]).told
    arrives_by to None e n = tt
    arrives_by to (Some h) e n =
        goes_for s (Comes d now) h (if heeds h.end.phase t then Heeded h.id d ∷ [] else []) (step h.end (Arrive t) now)
        (heeded_for to h (heeds h.end.phase t) refl n (open_is (named_by head.origin to) s.ends h e))

  received_for : (head : DatagramHead) → head_at d ≡ Ok head → (t : Transport) → transport_at (drop 15 d) ≡ Ok t → Came (after_transport s head.origin d t now).told
  received_for head r (Request pair window user node) c = requested_for head.origin pair window (first_open (opened_by head.origin pair) s.ends)
  received_for head r (Accept to own window) c = arrives_by head r (Accept to own window) c to (first_open (named_by head.origin to) s.ends) refl refl
  received_for head r (Refuse to) c = arrives_by head r (Refuse to) c to (first_open (named_by head.origin to) s.ends) refl refl
  received_for head r (Disconnect to) c = arrives_by head r (Disconnect to) c to (first_open (named_by head.origin to) s.ends) refl refl
  received_for head r (Disconnected to) c = arrives_by head r (Disconnected to) c to (first_open (named_by head.origin to) s.ends) refl refl
  received_for head r (Info to tx rx flags text) c = arrives_by head r (Info to tx rx flags text) c to (first_open (named_by head.origin to) s.ends) refl refl
  received_for head r (InfoAck to rx flags) c = arrives_by head r (InfoAck to rx flags) c to (first_open (named_by head.origin to) s.ends) refl refl

  read_for : (head : DatagramHead) → head_at d ≡ Ok head → (r : Result Transport TransportRefusal) → transport_at (drop 15 d) ≡ r → Came (read_as s head.origin d r now).told
  read_for head h (Err why) e = tt
  read_for head h (Ok t) e = received_for head h t e

  came_for : (r : Result DatagramHead DatagramRefusal) → head_at d ≡ r → Came (after_datagram s d r now).told
  came_for (Err why) e = tt
  came_for (Ok head) e =
      either_for s (Comes d now) (same_call head.origin s.own || not (same_call head.dest s.own)) (read_as s head.origin d (transport_at (drop 15 d)) now)
      (read_for head e (transport_at (drop 15 d)) refl)

pub sets_heed_partners : SetsHeedPartners
sets_heed_partners s (Connect dest now) =
    either_for s (Connect dest now) (same_call dest s.own || is_full s) (requests s dest now) (made_for s (Connect dest now) dest None None (requesting (new_pair s) s.user s.own s.config (min now COUNT_MAX)))
sets_heed_partners s (ConnectFor user dest now) =
    either_for s (ConnectFor user dest now) (same_call dest s.own || is_full s) (requests_for s user dest now) (made_for s (ConnectFor user dest now) dest None None (requesting (new_pair s) user s.own s.config (min now COUNT_MAX)))
sets_heed_partners s (Comes d now) = came_for s d now (head_at d) refl
sets_heed_partners s (Calls id call now) = called_for s (Calls id call now) (end_of id s.ends) call now
sets_heed_partners s (Discard id) = discarded_for s (Discard id) (end_of id s.ends)
sets_heed_partners s (Restart pair more) = losses_for s (Restart pair more) s.ends
