-- Messages of ARP that are spelled are read, and what is written spells them.
use Rattle.std.proofs.Common.{◌≡◌, ◌<◌, ◌+◌, ◌-◌, ◌*◌, ◌/◌, ◌%◌, ◌^◌, ◌++◌, ℕ, refl, sym, ap, subst, List, [], ◌∷◌, length, take, drop, get_or, arith, Bool, true, false, cond}
use Rattle.std.specs.Prelude.{Option, Some, None, Result, Ok, Err, is_some, nat_lt, not, ◌&&◌, ◌==◌}
use Rattle.std.proofs.lemmas.Bool.{eq-eqb}
use Rattle.std.proofs.lemmas.Bool.Decides.{nat_tests}
use Rattle.ax_address.specs.Callsign.{Callsign}
use Rattle.ax_address.specs.Octets.{SpelledNetCallIsRead, WrittenNetCallSpellsIt, SpellsNetCall, net_call_at, net_call_octets}
use Rattle.ax_address.specs.Results.{◌>>=◌}
use Rattle.ax_address.proofs.CallOctets.{seven}
use Rattle.ax_address.proofs.NetCallLaws.{call_len}
use Rattle.ax_ip.specs.declared.arp.ArpRefusal.{ArpRefusal}
use Rattle.ax_ip.specs.declared.arp.ArpRefusal.TheVariants.{Short, NotAx25}
use Rattle.ax_ip.specs.Packets.{octet, word, long, long_octets}
use Rattle.ax_ip.specs.Arps.{Arp, HasKind, IsTarget, SpellsArp, SpellsTarget, operation, is_ax25, reply_at, call_at, call_from, as_target, target_at, target_octets, message_at}
use Rattle.ax_ip.specs.Laws.{SpelledArpIsRead, WrittenArpSpellsIt}

-- what is spelled is read

reply_read : (r : Bool) (os : List ℕ) → word os 6 ≡ operation r → reply_at os ≡ Ok r
reply_read true os h = rw h refl
reply_read false os h = rw h refl

from_call : (at : ℕ) (c : Callsign) (os : List ℕ) → net_call_at os ≡ Ok c → call_at at os ≡ Ok c
from_call at c os h = ap (call_from at) h

target_read : SpelledNetCallIsRead → (r : Bool) (t : Option Callsign) (os : List ℕ) → SpellsTarget r t os → target_at r os ≡ Ok t
target_read law true (Some t) os h = ap as_target (from_call 19 t os (law t os h))
target_read law true None os h = absurd h
target_read law false (Some t) os h = absurd h
target_read law false None os h = refl

told : Bool → Callsign → ℕ → Option Callsign → ℕ → Arp
told reply sender sender_ip target target_ip = record { reply = reply; sender = sender; sender_ip = sender_ip; target = target; target_ip = target_ip }

parts_read : (a : Arp) (r : Result Bool ArpRefusal) (s : Result Callsign ArpRefusal) (t : Bool → Result (Option Callsign) ArpRefusal) (m n : ℕ)
    → r ≡ Ok a.reply → s ≡ Ok a.sender → t a.reply ≡ Ok a.target → m ≡ a.sender_ip → n ≡ a.target_ip
    → (r >>= (λ reply. s >>= (λ sender. t reply >>= (λ target. Ok (record { reply = reply; sender = sender; sender_ip = m; target = target; target_ip = n }))))) ≡ Ok a
parts_read a r s t m n e f g h k = rw (e, f, g, h, k) refl

message_read : SpelledNetCallIsRead → (a : Arp) (os : List ℕ) → SpellsArp a os → message_at os ≡ Ok a
unfolding message_at
message_read law a os h =
    parts_read a (reply_at os) (call_at 8 (take 7 (drop 8 os))) (λ reply. target_at reply (take 7 (drop 19 os))) (long os 15) (long os 26)
    (reply_read a.reply os h.operation) (from_call 8 a.sender (take 7 (drop 8 os)) (law a.sender (take 7 (drop 8 os)) h.sender))
    (target_read law a.reply a.target (take 7 (drop 19 os)) h.target) h.sender_ip h.target_ip

four_true : (p q r s : Bool) → p ≡ true → q ≡ true → r ≡ true → s ≡ true → (p && q && r && s) ≡ true
four_true p q r s h g k j = rw (h, g, k, j) refl

kind_true : (os : List ℕ) → HasKind os → is_ax25 os ≡ true
kind_true os h =
    four_true (word os 0 == 3) (word os 2 == 0xCC) (octet os 4 == 7) (octet os 5 == 4)
    (eq-eqb (word os 0) 3 h.hardware) (eq-eqb (word os 2) 0xCC h.protocol) (eq-eqb (octet os 4) 7 h.hardware_len) (eq-eqb (octet os 5) 4 h.protocol_len)

no_fault : (p q : Bool) (m : Result Arp ArpRefusal) (a : Arp) → p ≡ false → q ≡ true → m ≡ Ok a → cond p (Err Short) (cond (not q) (Err NotAx25) m) ≡ Ok a
no_fault p q m a h g k = rw (h, g, k) refl

pub arp_read : SpelledNetCallIsRead → SpelledArpIsRead
arp_read law a os h =
    let enough = h.enough in
    let long_enough : nat_lt (length os) 30 ≡ false = grind (arith, nat_tests) in
    no_fault (nat_lt (length os) 30) (is_ax25 os) (message_at os) a long_enough (kind_true os h.kind) (message_read law a os h)

-- what is written spells it

abbrev laid_out : Arp → List ℕ → List ℕ → List ℕ
laid_out a s t = (0 ∷ 3 ∷ 0 ∷ 0xCC ∷ 7 ∷ 4 ∷ 0 ∷ operation a.reply ∷ []) ++ s ++ long_octets a.sender_ip ++ t ++ long_octets a.target_ip

number_back : (n : ℕ) → n < 2 ^ 32 → 65536 * (256 * (n / 16777216) + n / 65536 % 256) + (256 * (n / 256 % 256) + n % 256) ≡ n
number_back n h = omega arith

laid_out_so : (a : Arp) (s0 s1 s2 s3 s4 s5 s6 t0 t1 t2 t3 t4 t5 t6 : ℕ) → a.sender_ip < 2 ^ 32 → a.target_ip < 2 ^ 32
    → SpellsNetCall a.sender (s0 ∷ s1 ∷ s2 ∷ s3 ∷ s4 ∷ s5 ∷ s6 ∷ []) → SpellsTarget a.reply a.target (t0 ∷ t1 ∷ t2 ∷ t3 ∷ t4 ∷ t5 ∷ t6 ∷ [])
    → SpellsArp a (laid_out a (s0 ∷ s1 ∷ s2 ∷ s3 ∷ s4 ∷ s5 ∷ s6 ∷ []) (t0 ∷ t1 ∷ t2 ∷ t3 ∷ t4 ∷ t5 ∷ t6 ∷ []))
laid_out_so a s0 s1 s2 s3 s4 s5 s6 t0 t1 t2 t3 t4 t5 t6 m n s t = record {
  enough = omega arith;
  kind = record { hardware = refl; protocol = refl; hardware_len = refl; protocol_len = refl };
  operation = omega arith;
  sender = s;
  sender_ip = number_back a.sender_ip m;
  target = t;
  target_ip = number_back a.target_ip n;
}

spells_laid_out : (a : Arp) (s t : List ℕ) → length s ≡ 7 → length t ≡ 7 → a.sender_ip < 2 ^ 32 → a.target_ip < 2 ^ 32 → SpellsNetCall a.sender s → SpellsTarget a.reply a.target t → SpellsArp a (laid_out a s t)
spells_laid_out a s t ls lt m n hs ht =
    let es = seven s ls in
    let et = seven t lt in
    subst (λ x. SpellsArp a (laid_out a x t)) (sym es)
    (subst (λ y. SpellsArp a (laid_out a (get_or s 0 0 ∷ get_or s 1 0 ∷ get_or s 2 0 ∷ get_or s 3 0 ∷ get_or s 4 0 ∷ get_or s 5 0 ∷ get_or s 6 0 ∷ []) y)) (sym et)
    (laid_out_so a (get_or s 0 0) (get_or s 1 0) (get_or s 2 0) (get_or s 3 0) (get_or s 4 0) (get_or s 5 0) (get_or s 6 0)
    (get_or t 0 0) (get_or t 1 0) (get_or t 2 0) (get_or t 3 0) (get_or t 4 0) (get_or t 5 0) (get_or t 6 0) m n
    (subst (SpellsNetCall a.sender) es hs) (subst (SpellsTarget a.reply a.target) et ht)))

target_len : (r : Bool) (t : Option Callsign) → IsTarget t → length (target_octets r t) ≡ 7
target_len true (Some t) h = call_len t h
target_len true None h = refl
target_len false (Some t) h = refl
target_len false None h = refl

target_written : WrittenNetCallSpellsIt → (r : Bool) (t : Option Callsign) → is_some t ≡ r → IsTarget t → SpellsTarget r t (target_octets r t)
target_written law true (Some t) e h = law t h
target_written law true None e h = absurd (cc)
target_written law false (Some t) e h = absurd (cc)
target_written law false None e h = tt

pub arp_written : WrittenNetCallSpellsIt → WrittenArpSpellsIt
arp_written law a h =
    spells_laid_out a (net_call_octets a.sender) (target_octets a.reply a.target) (call_len a.sender h.sender) (target_len a.reply a.target h.target)
    h.sender_ip h.target_ip (law a.sender h.sender) (target_written law a.reply a.target h.whole h.target)
