-- What a set sends is from its node.
use Rattle.std.proofs.Common.{ℕ, refl, List, [], ◌∷◌, ◌++◌}
use Rattle.std.specs.Prelude.{Bool, true, false, not, ◌&&◌, ◌||◌, if◌then◌else◌, drop, min, Option, Some, None, Result, Ok, Err}
use Rattle.radio_base.specs.declared.modulus.TheConstants.{COUNT_MAX}
use Rattle.ax_address.specs.Callsign.{Callsign, same_call}
use Rattle.l3_datagram.specs.declared.datagram.DatagramHead.{DatagramHead}
use Rattle.l3_datagram.specs.declared.datagram.DatagramRefusal.{DatagramRefusal}
use Rattle.l3_datagram.specs.Datagrams.{head_at}
use Rattle.circuit_l4.specs.declared.pair.Pair.{Pair}
use Rattle.circuit_l4.specs.declared.transport.Transport.{Transport}
use Rattle.circuit_l4.specs.declared.transport.Transport.TheVariants.{Request, Accept, Refuse, Disconnect, Disconnected, Info, InfoAck}
use Rattle.circuit_l4.specs.declared.transport.TransportRefusal.{TransportRefusal}
use Rattle.circuit_l4.specs.Transports.{transport_at}
use Rattle.circuit_l4.specs.declared.notice.EndNotice.{EndNotice}
use Rattle.circuit_l4.specs.State.{Effect, Out}
use Rattle.circuit_l4.specs.Opening.{facts_of, requesting, responding}
use Rattle.circuit_l4.specs.Table.{Arrive, step}
use Rattle.circuit_table.specs.Sets.{heeds, Call, Calls, Comes, Connect, ConnectFor, Discard, Restart, Gone, Heeded, Holder, Lost, Made, Notice, Restarted, Sent, SetDone, SetState, CircuitTold, accept_again, after_call, datagram_to, after_discarding, end_of, first_open, goes_to, hands_to, after_datagram, has_ended, holder_of, input_of, is_full, is_over, losses, makes_end, named_by, new_pair, notices, opened_by, read_as, after_transport, after_new_request, requests, requests_for, responds, sendings, told_by, does_nothing, with_end}
use Rattle.circuit_set.specs.Sendings.{SendsFrom, SetsSendTheirOwn}

module _ (s : SetState) where
  abbrev Own : List CircuitTold → Type 0
  Own ts = SendsFrom s.own s.ttl ts

  both : (xs ys : List CircuitTold) → Own xs → Own ys → Own (xs ++ ys)
  both [] ys a b = b
  both (Sent id number d ∷ xs) ys a b = (a.0, both xs ys a.1 b)
  both (Made id pair partner request ∷ xs) ys a b = both xs ys a b
  both (Heeded id d ∷ xs) ys a b = both xs ys a b
  both (Notice id notice ∷ xs) ys a b = both xs ys a b
  both (Gone id facts ∷ xs) ys a b = both xs ys a b
  both (Restarted pair ∷ xs) ys a b = both xs ys a b
  both (Lost id facts ∷ xs) ys a b = both xs ys a b

  sents_own : (id : ℕ) (at : Callsign) (os : List Out) → Own (sendings s id at os)
  sents_own id at [] = tt
  sents_own id at (o ∷ os) = (record { dest = at; transport = _; are = refl }, sents_own id at os)

  notices_own : (id : ℕ) (ns : List EndNotice) → Own (notices id ns)
  notices_own id [] = tt
  notices_own id (n ∷ ns) = notices_own id ns

  told_own : (h : Holder) (g : Effect) → Own (told_by s h g)
  told_own h g = both (sendings s h.id h.at g.outs ++ notices h.id g.notes) _ (both (sendings s h.id h.at g.outs) (notices h.id g.notes) (sents_own h.id h.at g.outs) (notices_own h.id g.notes)) (by (is_over g.end))
    where
      by : (b : Bool) → SendsFrom s.own s.ttl (if b then Gone h.id (facts_of g.end) ∷ [] else [])
      by true = tt
      by false = tt

  goes_own : (h : Holder) (first : List CircuitTold) (g : Effect) → Own first → Own (goes_to s h first g).told
  goes_own h first g a = both first (told_by s h g) a (told_own h g)

  made_own : (at : Callsign) (asked : Option Pair) (request : Option (List ℕ)) (g : Effect) → Own (makes_end s at asked request g).told
  made_own at asked request g = told_own (holder_of s at asked g) g

  anew_own : (origin : Callsign) (d : List ℕ) (pair : Pair) (window now : ℕ) (b : Bool)
      → Own (if b then record { set = s; told = Sent 0 None (datagram_to s origin (Refuse pair)) ∷ [] } else responds s origin d pair window now).told
  anew_own origin d pair window now true = (record { dest = origin; transport = _; are = refl }, tt)
  anew_own origin d pair window now false = made_own origin (Some pair) (Some d) (responding (new_pair s) pair window s.config (min now COUNT_MAX))

  requested_own : (origin : Callsign) (d : List ℕ) (pair : Pair) (window now : ℕ) (o : Option Holder)
      → Own (elim o as (λ x. SetDone) [ Some h ↦ goes_to s h [] (accept_again h.end) | None ↦ after_new_request s origin d pair window now ]).told
  requested_own origin d pair window now None = anew_own origin d pair window now (is_full s)
  requested_own origin d pair window now (Some h) = goes_own h [] (accept_again h.end) tt

  heeded_own : (id : ℕ) (d : List ℕ) (b : Bool) → Own (if b then Heeded id d ∷ [] else [])
  heeded_own id d true = tt
  heeded_own id d false = tt

  arrives_own : (origin : Callsign) (d : List ℕ) (t : Transport) (now : ℕ) (o : Option Holder) → Own (elim o as (λ x. SetDone) [ Some h ↦ hands_to s h d t now | None ↦ does_nothing s ]).told
  arrives_own origin d t now None = tt
  arrives_own origin d t now (Some h) = goes_own h (if heeds h.end.phase t then Heeded h.id d ∷ [] else []) (step h.end (Arrive t) now) (heeded_own h.id d (heeds h.end.phase t))

  received_own : (origin : Callsign) (d : List ℕ) (t : Transport) (now : ℕ) → Own (after_transport s origin d t now).told
  received_own origin d (Request pair window user node) now = requested_own origin d pair window now (first_open (opened_by origin pair) s.ends)
  received_own origin d (Accept to own window) now = arrives_own origin d (Accept to own window) now (first_open (named_by origin to) s.ends)
  received_own origin d (Refuse to) now = arrives_own origin d (Refuse to) now (first_open (named_by origin to) s.ends)
  received_own origin d (Disconnect to) now = arrives_own origin d (Disconnect to) now (first_open (named_by origin to) s.ends)
  received_own origin d (Disconnected to) now = arrives_own origin d (Disconnected to) now (first_open (named_by origin to) s.ends)
  received_own origin d (Info to tx rx flags text) now = arrives_own origin d (Info to tx rx flags text) now (first_open (named_by origin to) s.ends)
  received_own origin d (InfoAck to rx flags) now = arrives_own origin d (InfoAck to rx flags) now (first_open (named_by origin to) s.ends)

  read_own : (origin : Callsign) (d : List ℕ) (r : Result Transport TransportRefusal) (now : ℕ) → Own (read_as s origin d r now).told
  read_own origin d (Err why) now = tt
  read_own origin d (Ok t) now = received_own origin d t now

  either_own : (b : Bool) (r : SetDone) → Own r.told → Own (if b then does_nothing s else r).told
  either_own true r a = tt
  either_own false r a = a

  handed_own : (d : List ℕ) (r : Result DatagramHead DatagramRefusal) (now : ℕ) → Own (after_datagram s d r now).told
  handed_own d (Err why) now = tt
  handed_own d (Ok head) now =
      either_own (same_call head.origin s.own || not (same_call head.dest s.own)) (read_as s head.origin d (transport_at (drop 15 d)) now) (read_own head.origin d (transport_at (drop 15 d)) now)

  called_own : (o : Option Holder) (call : Call) (now : ℕ) → Own (after_call s o call now).told
  called_own None call now = tt
  called_own (Some h) call now = either_own h.gone (goes_to s h [] (step h.end (input_of call) now)) (goes_own h [] (step h.end (input_of call) now) tt)

  discarded_own : (o : Option Holder) → Own (after_discarding s o).told
  discarded_own None = tt
  discarded_own (Some h) = by (not h.gone && has_ended h.end.phase)
    where
      by : (b : Bool) → SendsFrom s.own s.ttl (if b then record { set = record s { ends = with_end (record h { gone = true }) s.ends }; told = Gone h.id (facts_of h.end) ∷ [] } else does_nothing s).told
      by true = tt
      by false = tt

  losses_own : (hs : List Holder) → Own (losses hs)
  losses_own [] = tt
  losses_own (h ∷ hs) = by h.gone (losses_own hs)
    where
      by : (b : Bool) → SendsFrom s.own s.ttl (losses hs) → SendsFrom s.own s.ttl (if b then losses hs else Lost h.id (facts_of h.end) ∷ losses hs)
      by true a = a
      by false a = a

pub sets_send_their_own : SetsSendTheirOwn
sets_send_their_own s (Connect dest now) = either_own s (same_call dest s.own || is_full s) (requests s dest now) (made_own s dest None None (requesting (new_pair s) s.user s.own s.config (min now COUNT_MAX)))
sets_send_their_own s (ConnectFor user dest now) = either_own s (same_call dest s.own || is_full s) (requests_for s user dest now) (made_own s dest None None (requesting (new_pair s) user s.own s.config (min now COUNT_MAX)))
sets_send_their_own s (Comes d now) = handed_own s d (head_at d) now
sets_send_their_own s (Calls id call now) = called_own s (end_of id s.ends) call now
sets_send_their_own s (Discard id) = discarded_own s (end_of id s.ends)
sets_send_their_own s (Restart pair more) = losses_own s s.ends
