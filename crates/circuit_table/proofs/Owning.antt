-- The call of a node and its hops stay in each step of its ends.
use Rattle.std.specs.Prelude.{◌≡◌, ℕ, Bool, true, false, not, ◌&&◌, ◌||◌, if◌then◌else◌, List, [], ◌∷◌, drop, Option, Some, None, Result, Ok, Err, refl}
use Rattle.std.proofs.Common.{◌∙◌}
use Rattle.ax_address.specs.Callsign.{Callsign, same_call}
use Rattle.l3_datagram.specs.declared.datagram.DatagramHead.{DatagramHead}
use Rattle.l3_datagram.specs.declared.datagram.DatagramRefusal.{DatagramRefusal}
use Rattle.l3_datagram.specs.Datagrams.{head_at}
use Rattle.circuit_l4.specs.declared.pair.Pair.{Pair}
use Rattle.circuit_l4.specs.declared.transport.Transport.{Transport}
use Rattle.circuit_l4.specs.declared.transport.Transport.TheVariants.{Request, Accept, Refuse, Disconnect, Disconnected, Info, InfoAck}
use Rattle.circuit_l4.specs.declared.transport.TransportRefusal.{TransportRefusal}
use Rattle.circuit_l4.specs.Transports.{transport_at}
use Rattle.circuit_l4.specs.Table.{step}
use Rattle.circuit_l4.specs.Opening.{facts_of}
use Rattle.circuit_table.specs.Sets.{Act, Call, Calls, Comes, Connect, ConnectFor, Discard, Restart, Holder, SetDone, SetState, accept_again, after_call, after_discarding, end_of, first_open, goes_to, hands_to, after_datagram, has_ended, is_full, input_of, named_by, opened_by, with_end, Gone, Sent, datagram_to, read_as, after_transport, after_new_request, requests, requests_for, responds, set_step, does_nothing}
use Rattle.circuit_table.specs.Pumps.{runs}

pub record SameOwn (s t : SetState) : Type 0 where
  pub own : t.own ≡ s.own
  pub ttl : t.ttl ≡ s.ttl

same : (s : SetState) → SameOwn s s
same s = record { own = refl; ttl = refl }

either : (s : SetState) (b : Bool) (c d : SetDone) → SameOwn s c.set → SameOwn s d.set → SameOwn s (if b then c else d).set
either s true c d x y = x
either s false c d x y = y

module _ (s : SetState) where
  named : (d : List ℕ) (t : Transport) (now : ℕ) (o : Option Holder) → SameOwn s (elim o as (λ x. SetDone) [ Some h ↦ hands_to s h d t now | None ↦ does_nothing s ]).set
  named d t now (Some h) = record { own = refl; ttl = refl }
  named d t now None = same s

  asked : (origin : Callsign) (d : List ℕ) (pair : Pair) (window now : ℕ) (o : Option Holder)
      → SameOwn s (elim o as (λ x. SetDone) [ Some h ↦ goes_to s h [] (accept_again h.end) | None ↦ after_new_request s origin d pair window now ]).set
  asked origin d pair window now (Some h) = record { own = refl; ttl = refl }
  asked origin d pair window now None = either s (is_full s) (record { set = s; told = Sent 0 None (datagram_to s origin (Refuse pair)) ∷ [] }) (responds s origin d pair window now) (same s) (record { own = refl; ttl = refl })

  pub comes : (origin : Callsign) (d : List ℕ) (t : Transport) (now : ℕ) → SameOwn s (after_transport s origin d t now).set
  comes origin d (Request pair window user node) now = asked origin d pair window now (first_open (opened_by origin pair) s.ends)
  comes origin d (Accept to own window) now = named d (Accept to own window) now (first_open (named_by origin to) s.ends)
  comes origin d (Refuse to) now = named d (Refuse to) now (first_open (named_by origin to) s.ends)
  comes origin d (Disconnect to) now = named d (Disconnect to) now (first_open (named_by origin to) s.ends)
  comes origin d (Disconnected to) now = named d (Disconnected to) now (first_open (named_by origin to) s.ends)
  comes origin d (Info to tx rx flags text) now = named d (Info to tx rx flags text) now (first_open (named_by origin to) s.ends)
  comes origin d (InfoAck to rx flags) now = named d (InfoAck to rx flags) now (first_open (named_by origin to) s.ends)

  pub read : (origin : Callsign) (d : List ℕ) (r : Result Transport TransportRefusal) (now : ℕ) → SameOwn s (read_as s origin d r now).set
  read origin d (Err e) now = same s
  read origin d (Ok t) now = comes origin d t now

  headed : (d : List ℕ) (r : Result DatagramHead DatagramRefusal) (now : ℕ) → SameOwn s (after_datagram s d r now).set
  headed d (Err e) now = same s
  headed d (Ok head) now =
      either s (same_call head.origin s.own || not (same_call head.dest s.own)) (does_nothing s) (read_as s head.origin d (transport_at (drop 15 d)) now) (same s) (read head.origin d (transport_at (drop 15 d)) now)

  calls : (o : Option Holder) (call : Call) (now : ℕ) → SameOwn s (after_call s o call now).set
  calls None call now = same s
  calls (Some h) call now = either s h.gone (does_nothing s) (goes_to s h [] (step h.end (input_of call) now)) (same s) (record { own = refl; ttl = refl })

  discards : (o : Option Holder) → SameOwn s (after_discarding s o).set
  discards None = same s
  discards (Some h) =
      let d : SetDone = record { set = record s { ends = with_end (record h { gone = true }) s.ends }; told = Gone h.id (facts_of h.end) ∷ [] } in
      either s (not h.gone && has_ended h.end.phase) d (does_nothing s) (record { own = refl; ttl = refl }) (same s)

  pub step_own : (a : Act) → SameOwn s (set_step s a).set
  step_own (Connect dest now) = either s (same_call dest s.own || is_full s) (does_nothing s) (requests s dest now) (same s) (record { own = refl; ttl = refl })
  step_own (ConnectFor user dest now) = either s (same_call dest s.own || is_full s) (does_nothing s) (requests_for s user dest now) (same s) (record { own = refl; ttl = refl })
  step_own (Comes d now) = headed d (head_at d) now
  step_own (Calls id call now) = calls (end_of id s.ends) call now
  step_own (Discard id) = discards (end_of id s.ends)
  step_own (Restart pair more) = record { own = refl; ttl = refl }

pub runs_own : (acts : List Act) (s : SetState) → SameOwn s (runs acts s).set
runs_own [] s = same s
runs_own (a ∷ acts) s =
    let x = step_own s a in
    let y = runs_own acts (set_step s a).set in
    record { own = y.own ∙ x.own; ttl = y.ttl ∙ x.ttl }
