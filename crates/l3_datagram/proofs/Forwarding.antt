-- A datagram that goes on is the one that came, one hop further.
use Rattle.std.proofs.Common.{◌≡◌, ◌≢◌, ◌-◌, ◌<◌, ◌≤◌, ℕ, zero, suc, refl, ap, List, [], ◌∷◌, length, slice_get, slice_set, slice_index, Option, Some, None, Result, Ok, Err, Bool, true, false, arith}
use Rattle.std.specs.Prelude.{nat_le, nat_lt, if◌then◌else◌}
use Rattle.std.proofs.lemmas.List.{length-set, get_or-set_same}
use Rattle.std.proofs.lemmas.Bool.{leb-false, ltb-false}
use Rattle.ax_address.specs.Callsign.{Callsign, same_call}
use Rattle.ax_address.specs.Results.{◌>>=◌}
use Rattle.l3_datagram.specs.declared.datagram.DatagramHead.{DatagramHead}
use Rattle.l3_datagram.specs.declared.datagram.DatagramRefusal.{DatagramRefusal}
use Rattle.l3_datagram.specs.declared.datagram.DatagramRefusal.TheVariants.{Short, TooLong}
use Rattle.l3_datagram.specs.declared.routed.Routed.TheVariants.{Mine, Expired, Returned}
use Rattle.l3_datagram.specs.Datagrams.{Datagram, head_at, call_from}
use Rattle.l3_datagram.specs.Routers.{Ends, ToNeighbour, onward, way_of, with_ttl}
use Rattle.l3_datagram.specs.Onward.{IsOneHopOn, GoesOneHopOn}

-- what was read has as many octets as a head, and the time to live at its place
record Read (octets : List ℕ) (head : DatagramHead) : Type 0 where
  size : 15 ≤ length octets
  ttl : slice_index octets 14 ≡ head.ttl

calls_read : (octets : List ℕ) (head : DatagramHead) (origin dest : Result Callsign DatagramRefusal) →
    (origin >>= λ o. dest >>= λ d. Ok (record { origin = o; dest = d; ttl = slice_index octets 14 })) ≡ Ok head →
    slice_index octets 14 ≡ head.ttl
calls_read octets head (Ok o) (Ok d) e = cc
calls_read octets head (Ok o) (Err r) e = cc
calls_read octets head (Err r) dest e = cc

size_read : (octets : List ℕ) (head : DatagramHead) (low high : Bool) → nat_lt (length octets) 15 ≡ low →
    ((if low then Err (Short (length octets)) else (if high then Err TooLong else Ok octets)) >>= λ whole.
    call_from 0 whole >>= λ o. call_from 7 whole >>= λ d. Ok (record { origin = o; dest = d; ttl = slice_index whole 14 })) ≡ Ok head →
    Read octets head
size_read octets head true high l e = absurd (cc)
size_read octets head false true l e = absurd (cc)
size_read octets head false false l e = record {
  size = ltb-false (length octets) 15 l;
  ttl = calls_read octets head (call_from 0 octets) (call_from 7 octets) e;
}

read_is : (octets : List ℕ) (head : DatagramHead) → head_at octets ≡ Ok head → Read octets head
unfolding head_at
read_is octets head e = size_read octets head (nat_lt (length octets) 15) (nat_lt 256 (length octets)) refl e

-- hops were left, and one was taken
went_on : (d : Datagram) (head : DatagramHead) (neighbour : Callsign) (on : Datagram) (returned mine expired : Bool) (hop : Option Callsign) →
    (if returned then Ends Returned else (if mine then Ends (Mine head.origin d) else (if expired then Ends Expired else onward d head.ttl hop))) ≡ ToNeighbour neighbour on →
    (expired ≡ false) × (on ≡ with_ttl d (head.ttl - 1))
went_on d head neighbour on true mine expired hop e = absurd (cc)
went_on d head neighbour on false true expired hop e = absurd (cc)
went_on d head neighbour on false false true hop e = absurd (cc)
went_on d head neighbour on false false false None e = absurd (cc)
went_on d head neighbour on false false false (Some n) e = (refl, cc)

slice_get-set_other : (xs : List ℕ) (i k x : ℕ) → k ≢ i → slice_get (slice_set xs i x) k ≡ slice_get xs k
slice_get-set_other [] i k x apart = refl
slice_get-set_other (y ∷ ys) zero zero x apart = absurd (apart refl)
slice_get-set_other (y ∷ ys) zero (suc k) x apart = refl
slice_get-set_other (y ∷ ys) (suc i) zero x apart = refl
slice_get-set_other (y ∷ ys) (suc i) (suc k) x apart = slice_get-set_other ys i k x (λ e. apart (ap suc e))

one_on : (d : Datagram) (head : DatagramHead) → Read d.items head → 1 < head.ttl → IsOneHopOn d.items (with_ttl d (head.ttl - 1)).items
one_on d head r more = record {
  size = length-set d.items 14 (head.ttl - 1);
  others = λ at apart. slice_get-set_other d.items 14 at (head.ttl - 1) apart;
  ttl =
      let size = r.size in
      let ttl = r.ttl in
      let there : 14 < length d.items = omega arith in
      omega (arith, get_or-set_same d.items 14 (head.ttl - 1) 0 there);
}

by_head : (own : Callsign) (next_hop : Callsign → Option Callsign) (d : Datagram) (neighbour : Callsign) (on : Datagram) (r : Result DatagramHead DatagramRefusal) →
    head_at d.items ≡ r → way_of own next_hop d r ≡ ToNeighbour neighbour on → IsOneHopOn d.items on.items
by_head own next_hop d neighbour on (Err e) read goes = absurd (cc)
by_head own next_hop d neighbour on (Ok head) read goes =
    let w = went_on d head neighbour on (same_call head.origin own) (same_call head.dest own) (nat_le head.ttl 1) (next_hop head.dest) goes in
    rw w.1 (one_on d head (read_is d.items head read) (leb-false head.ttl 1 w.0))

pub goes_one_hop_on : GoesOneHopOn
goes_one_hop_on own next_hop d neighbour on goes = by_head own next_hop d neighbour on (head_at d.items) refl goes
