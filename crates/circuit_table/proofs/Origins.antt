-- The origin of a datagram that is read is a call.
use Rattle.std.specs.Prelude.{◌≡◌, ℕ, Bool, true, false, List, Option, None, Some, refl, Result, Ok, Err, length, take, drop, ◌≤◌, nat_lt, if◌then◌else◌, get_or, slice_index, ◌/◌, ◌%◌, ◌-◌}
use Rattle.std.proofs.Common.{sym, ap, subst, arith}
use Rattle.std.proofs.lemmas.Bool.Decides.{nat_tests}
use Rattle.std.proofs.lemmas.List.{length-drop, length-take-le}
use Rattle.ax_address.specs.Callsign.{Callsign, IsCallsign}
use Rattle.ax_address.specs.Octets.{net_call_at, net_call_in, unless_at_fault, address_fault}
use Rattle.ax_address.specs.declared.address_refusal.AddressRefusal.{AddressRefusal}
use Rattle.ax_address.proofs.CallOctets.{six_are_call}
use Rattle.ax_address.proofs.NetCallLaws.{letters_taken}
use Rattle.ax_address.specs.Results.{◌>>=◌}
use Rattle.l3_datagram.specs.declared.datagram.DatagramHead.{DatagramHead}
use Rattle.l3_datagram.specs.declared.datagram.DatagramRefusal.{DatagramRefusal}
use Rattle.l3_datagram.specs.Datagrams.{call_from, fault_from, head_at, sized}

net_case : (os : List ℕ) (c : Callsign) (o : Option AddressRefusal) → address_fault os ≡ o → unless_at_fault o (net_call_in os) ≡ Ok c → length os ≡ 7 → IsCallsign c.letters c.ssid
net_case os c (Some f) e h len = cc
net_case os c None e h len =
    let same : net_call_in os ≡ c = cc in
    let read : IsCallsign (net_call_in os).letters (net_call_in os).ssid =
    subst (λ ls. IsCallsign ls (get_or os 6 0 / 2 % 16)) (sym (letters_taken os len)) (six_are_call os (get_or os 6 0 / 2 % 16) len e (omega arith)) in
    subst (λ (k : Callsign). IsCallsign k.letters k.ssid) same read

call_read : (os : List ℕ) (c : Callsign) → net_call_at os ≡ Ok c → length os ≡ 7 → IsCallsign c.letters c.ssid
call_read os c h len = net_case os c (address_fault os) refl h len

from_case : (at : ℕ) (c : Callsign) (r : Result Callsign AddressRefusal) → fault_from at r ≡ Ok c → r ≡ Ok c
from_case at c (Ok k) h = let same : k ≡ c = cc in ap (λ x. Ok x) same
from_case at c (Err f) h = cc

dest_case : (origin : Callsign) (ttl : ℕ) (head : DatagramHead) (r : Result Callsign DatagramRefusal) → (r >>= (λ dest. Ok (record { origin = origin; dest = dest; ttl = ttl }))) ≡ Ok head → head.origin ≡ origin
dest_case origin ttl head (Ok dest) h = let same : record { origin = origin; dest = dest; ttl = ttl } ≡ head = cc in ap (λ (k : DatagramHead). k.origin) (sym same)
dest_case origin ttl head (Err f) h = cc

sized_case : (d w : List ℕ) (b c : Bool) (e f : DatagramRefusal) → nat_lt (length d) 15 ≡ b → (if b then Err e else (if c then Err f else Ok d)) ≡ Ok w → (w ≡ d) × (15 ≤ length d)
sized_case d w true c e f t h = cc
sized_case d w false true e f t h = cc
sized_case d w false false e f t h = (let same : d ≡ w = cc in sym same, grind (arith, nat_tests))

call_case : (whole : List ℕ) (head : DatagramHead) (ttl : ℕ) (r : Result Callsign DatagramRefusal) → call_from 0 whole ≡ r
    → (r >>= (λ origin. call_from 7 whole >>= (λ dest. Ok (record { origin = origin; dest = dest; ttl = ttl })))) ≡ Ok head → 15 ≤ length whole → IsCallsign head.origin.letters head.origin.ssid
call_case whole head ttl (Err f) e h len = cc
call_case whole head ttl (Ok origin) e h len =
    let same : head.origin ≡ origin = dest_case origin ttl head (call_from 7 whole) h in
    let long : length (drop 0 whole) ≡ length whole - 0 = length-drop 0 whole in
    let seven : length (take 7 (drop 0 whole)) ≡ 7 = length-take-le 7 (drop 0 whole) (omega arith) in
    subst (λ (k : Callsign). IsCallsign k.letters k.ssid) (sym same) (call_read (take 7 (drop 0 whole)) origin (from_case 0 origin (net_call_at (take 7 (drop 0 whole))) e) seven)

size_case : (d : List ℕ) (head : DatagramHead) (r : Result (List ℕ) DatagramRefusal) → sized d ≡ r
    → (r >>= (λ whole. call_from 0 whole >>= (λ origin. call_from 7 whole >>= (λ dest. Ok (record { origin = origin; dest = dest; ttl = slice_index whole 14 }))))) ≡ Ok head
    → IsCallsign head.origin.letters head.origin.ssid
size_case d head (Err f) e h = cc
size_case d head (Ok whole) e h =
    let two : (whole ≡ d) × (15 ≤ length d) = sized_case d whole (nat_lt (length d) 15) (nat_lt 256 (length d)) _ _ refl e in
    let len : length whole ≡ length d = ap length two.0 in
    let low : 15 ≤ length d = two.1 in
    call_case whole head (slice_index whole 14) (call_from 0 whole) refl h (omega arith)

-- the origin of a datagram that is read is a call
pub origin_read : (d : List ℕ) (head : DatagramHead) → head_at d ≡ Ok head → IsCallsign head.origin.letters head.origin.ssid
unfolding head_at
origin_read d head h = size_case d head (sized d) refl h
