-- What octets are read as a transport by, and refused for.
use Rattle.std.proofs.Common.{◌≡◌, ◌≤◌, ◌<◌, ◌+◌, ◌∙◌, ◌⊎◌, inl, inr, ℕ, refl, sym, ap, List, length, take, drop, get_or, arith, Bool, true, false, cond}
use Rattle.std.specs.Prelude.{Option, Some, None, Result, Ok, Err, nat_lt, nat_le, ◌==◌}
use Rattle.std.proofs.lemmas.Bool.{ltb-true, ltb-false, leb-true, leb-false, eqb-true}
use Rattle.std.proofs.lemmas.Bool.Decides.{nat_tests}
use Rattle.std.proofs.lemmas.List.{take-take}
use Rattle.ax_address.specs.Callsign.{Callsign}
use Rattle.ax_address.specs.Octets.{net_call_in, unless_at_fault, address_fault, fault_in, refused_octet}
use Rattle.ax_address.specs.Results.{◌>>=◌}
use Rattle.ax_address.specs.declared.address_refusal.AddressRefusal.{AddressRefusal}
use Rattle.circuit_l4.specs.declared.pair.Pair.{Pair}
use Rattle.circuit_l4.specs.declared.transport.Transport.{Transport}
use Rattle.circuit_l4.specs.declared.transport.Transport.TheVariants.{Request, Accept, Refuse, Disconnect, Disconnected, InfoAck}
use Rattle.circuit_l4.specs.declared.transport.TransportRefusal.{TransportRefusal}
use Rattle.circuit_l4.specs.declared.transport.TransportRefusal.TheVariants.{Short, BadOpcode, BadCall, TooLong}
use Rattle.circuit_l4.specs.Transports.{pair_at, opcode, choke, flags_in, octet_at, fault_from, cut_off, call_from, request_at, accept_at, info_in, of_opcode, transport_at}

-- ---- a call

abbrev call_by : Bool → ℕ → ℕ → Option AddressRefusal → Option AddressRefusal → Callsign → Result Callsign TransportRefusal
call_by short at len f g c = cond short (cut_off at len f) (fault_from at (unless_at_fault g c))

call_same : (short : Bool) (at len : ℕ) (f g h : Option AddressRefusal) (c : Callsign) → g ≡ h → call_by short at len f g c ≡ call_by short at len f h c
call_same short at len f g h c e = rw e refl

call_is : (at : ℕ) (os : List ℕ) → call_from at os ≡ call_by (nat_lt (length os) (at + 7)) at (length os) (address_fault (drop at os)) (address_fault (drop at os)) (net_call_in (take 7 (drop at os)))
call_is at os =
    call_same (nat_lt (length os) (at + 7)) at (length os) (address_fault (drop at os)) (address_fault (take 7 (drop at os))) (address_fault (drop at os)) (net_call_in (take 7 (drop at os)))
    (ap fault_in (take-take 6 7 (drop at os) (omega arith)))

call_by_ok : (short : Bool) (at len : ℕ) (f : Option AddressRefusal) (c d : Callsign) → call_by short at len f f c ≡ Ok d → (short ≡ false) × (f ≡ None)
call_by_ok false at len None c d h = (refl, refl)
call_by_ok false at len (Some r) c d h = absurd cc
call_by_ok true at len None c d h = absurd cc
call_by_ok true at len (Some r) c d h = absurd cc

-- an octet that can't stand there, or the octets end
abbrev pub CallFault : ℕ → ℕ → Option AddressRefusal → TransportRefusal → Type 0
CallFault at len f w = ((r : AddressRefusal) × (f ≡ Some r) × (BadCall (at + refused_octet r) ≡ w)) ⊎ ((len < at + 7) × (f ≡ None) × (Short len ≡ w))

call_by_err : (short : Bool) (at len : ℕ) (f : Option AddressRefusal) (c : Callsign) (w : TransportRefusal) → nat_lt len (at + 7) ≡ short → call_by short at len f f c ≡ Err w → CallFault at len f w
call_by_err false at len None c w e h = absurd cc
call_by_err false at len (Some r) c w e h = inl (r, refl, cc)
call_by_err true at len None c w e h = inr (ltb-true len (at + 7) e, refl, cc)
call_by_err true at len (Some r) c w e h = inl (r, refl, cc)

pub call_ok : (at : ℕ) (os : List ℕ) (c : Callsign) → call_from at os ≡ Ok c → (at + 7 ≤ length os) × (address_fault (drop at os) ≡ None)
call_ok at os c h =
    let k = call_by_ok (nat_lt (length os) (at + 7)) at (length os) (address_fault (drop at os)) (net_call_in (take 7 (drop at os))) c (sym (call_is at os) ∙ h) in
    (ltb-false (length os) (at + 7) k.0, k.1)

pub call_err : (at : ℕ) (os : List ℕ) (w : TransportRefusal) → call_from at os ≡ Err w → CallFault at (length os) (address_fault (drop at os)) w
call_err at os w h =
    call_by_err (nat_lt (length os) (at + 7)) at (length os) (address_fault (drop at os)) (net_call_in (take 7 (drop at os))) w refl (sym (call_is at os) ∙ h)

call_by_good : (short : Bool) (at len : ℕ) (f : Option AddressRefusal) (c : Callsign) → short ≡ false → f ≡ None → call_by short at len f f c ≡ Ok c
call_by_good short at len f c h e = rw (h, e) refl

pub call_good : (at : ℕ) (os : List ℕ) → at + 7 ≤ length os → address_fault (drop at os) ≡ None → call_from at os ≡ Ok (net_call_in (take 7 (drop at os)))
call_good at os long none =
    let short : nat_lt (length os) (at + 7) ≡ false = grind (arith, nat_tests) in
    call_is at os ∙ call_by_good (nat_lt (length os) (at + 7)) at (length os) (address_fault (drop at os)) (net_call_in (take 7 (drop at os))) short none

-- ---- an octet

abbrev octet_told : Bool → ℕ → ℕ → Result ℕ TransportRefusal
octet_told past len o = cond past (Err (Short len)) (Ok o)

octet_by_err : (past : Bool) (at len o : ℕ) (w : TransportRefusal) → nat_le len at ≡ past → octet_told past len o ≡ Err w → (len ≤ at) × (Short len ≡ w)
octet_by_err true at len o w e h = (leb-true len at e, cc)
octet_by_err false at len o w e h = absurd cc

octet_err : (at : ℕ) (os : List ℕ) (w : TransportRefusal) → octet_at at os ≡ Err w → (length os ≤ at) × (Short (length os) ≡ w)
octet_err at os w h = octet_by_err (nat_le (length os) at) at (length os) (get_or os at 0) w refl h

octet_by_ok : (past : Bool) (at len o x : ℕ) → nat_le len at ≡ past → octet_told past len o ≡ Ok x → at < len
octet_by_ok true at len o x e h = absurd cc
octet_by_ok false at len o x e h = leb-false len at e

octet_ok : (at : ℕ) (os : List ℕ) (x : ℕ) → octet_at at os ≡ Ok x → at < length os
octet_ok at os x h = octet_by_ok (nat_le (length os) at) at (length os) (get_or os at 0) x refl h

-- ---- a request

abbrev three : Pair → Result ℕ TransportRefusal → Result Callsign TransportRefusal → Result Callsign TransportRefusal → Result Transport TransportRefusal
three pair w u n = w >>= (λ window. u >>= (λ user. n >>= (λ node. Ok (Request pair window user node))))

three_ok : (pair : Pair) (w : Result ℕ TransportRefusal) (u n : Result Callsign TransportRefusal) (t : Transport) → three pair w u n ≡ Ok t → (a : ℕ) × (b : Callsign) × (c : Callsign) × (w ≡ Ok a) × (u ≡ Ok b) × (n ≡ Ok c)
three_ok pair (Ok a) (Ok b) (Ok c) t h = (a, b, c, refl, refl, refl)
three_ok pair (Ok a) (Ok b) (Err e) t h = absurd cc
three_ok pair (Ok a) (Err e) n t h = absurd cc
three_ok pair (Err e) u n t h = absurd cc

-- which of the three is refused
abbrev Refused : Result ℕ TransportRefusal → Result Callsign TransportRefusal → Result Callsign TransportRefusal → TransportRefusal → Type 0
Refused w u n e = (w ≡ Err e) ⊎ (((a : ℕ) × (w ≡ Ok a) × (u ≡ Err e)) ⊎ ((a : ℕ) × (b : Callsign) × (w ≡ Ok a) × (u ≡ Ok b) × (n ≡ Err e)))

three_err : (pair : Pair) (w : Result ℕ TransportRefusal) (u n : Result Callsign TransportRefusal) (e : TransportRefusal) → three pair w u n ≡ Err e → Refused w u n e
three_err pair (Ok a) (Ok b) (Ok c) e h = absurd cc
three_err pair (Ok a) (Ok b) (Err d) e h = let s : d ≡ e = cc in inr (inr (a, b, refl, refl, ap Err s))
three_err pair (Ok a) (Err d) n e h = let s : d ≡ e = cc in inr (inl (a, refl, ap Err s))
three_err pair (Err d) u n e h = let s : d ≡ e = cc in inl (ap Err s)

pub record ReadRequest (os : List ℕ) : Type 0 where
  pub user : address_fault (drop 6 os) ≡ None
  pub node : address_fault (drop 13 os) ≡ None

pub request_ok : (os : List ℕ) (t : Transport) → request_at os ≡ Ok t → ReadRequest os
unfolding request_at
request_ok os t h =
    let k = three_ok (pair_at 0 os) (octet_at 5 os) (call_from 6 os) (call_from 13 os) t h in
    record { user = (call_ok 6 os k.1 k.4).1; node = (call_ok 13 os k.2 k.5).1 }

-- the window is missing, or a call is at fault or cut off
abbrev pub RequestFault : List ℕ → TransportRefusal → Type 0
RequestFault os w =
    ((length os ≤ 5) × (Short (length os) ≡ w))
    ⊎ (((5 < length os) × CallFault 6 (length os) (address_fault (drop 6 os)) w)
    ⊎ ((13 ≤ length os) × (address_fault (drop 6 os) ≡ None) × CallFault 13 (length os) (address_fault (drop 13 os)) w))

refused_by : (os : List ℕ) (w : TransportRefusal) → Refused (octet_at 5 os) (call_from 6 os) (call_from 13 os) w → RequestFault os w
refused_by os w (inl a) = inl (octet_err 5 os w a)
refused_by os w (inr (inl b)) = inr (inl (octet_ok 5 os b.0 b.1, call_err 6 os w b.2))
refused_by os w (inr (inr c)) = let u = call_ok 6 os c.1 c.3 in inr (inr (u.0, u.1, call_err 13 os w c.4))

pub request_err : (os : List ℕ) (w : TransportRefusal) → request_at os ≡ Err w → RequestFault os w
unfolding request_at
request_err os w h = refused_by os w (three_err (pair_at 0 os) (octet_at 5 os) (call_from 6 os) (call_from 13 os) w h)

-- ---- an acceptance

accept_by : (p q : Pair) (r : Result ℕ TransportRefusal) (w : TransportRefusal) → (r >>= (λ window. Ok (Accept p q window))) ≡ Err w → r ≡ Err w
accept_by p q (Ok a) w h = absurd cc
accept_by p q (Err d) w h = let s : d ≡ w = cc in ap Err s

pub accept_err : (os : List ℕ) (w : TransportRefusal) → accept_at os ≡ Err w → (length os ≤ 5) × (Short (length os) ≡ w)
unfolding accept_at
accept_err os w h = octet_err 5 os w (accept_by (pair_at 0 os) (pair_at 2 os) (octet_at 5 os) w h)

-- ---- by the opcode

pub requesting : (os : List ℕ) → opcode os ≡ 1 → of_opcode os ≡ request_at os
requesting os h = rw h refl

pub accepting : (os : List ℕ) → opcode os ≡ 2 → choke os ≡ false → of_opcode os ≡ accept_at os
accepting os h k = rw (h, k) refl

pub disconnecting : (os : List ℕ) → opcode os ≡ 3 → of_opcode os ≡ Ok (Disconnect (pair_at 0 os))
disconnecting os h = rw h refl

-- no opcode
pub record NoCode (n : ℕ) : Type 0 where
  pub one : (n == 1) ≡ false
  pub two : (n == 2) ≡ false
  pub three : (n == 3) ≡ false
  pub four : (n == 4) ≡ false
  pub five : (n == 5) ≡ false
  pub six : (n == 6) ≡ false

abbrev by_code : List ℕ → Bool → Bool → Bool → Bool → Bool → Bool → Bool → Result Transport TransportRefusal
by_code os a b c d e f chokes =
    cond a (request_at os)
    (cond b (cond chokes (Ok (Refuse (pair_at 0 os))) (accept_at os))
    (cond c (Ok (Disconnect (pair_at 0 os)))
    (cond d (Ok (Disconnected (pair_at 0 os)))
    (cond e (Ok (info_in os))
    (cond f (Ok (InfoAck (pair_at 0 os) (get_or os 3 0) (flags_in os)))
    (Err BadOpcode))))))

-- what is refused by its opcode
abbrev pub CodeFault : List ℕ → TransportRefusal → Type 0
CodeFault os w =
    ((opcode os ≡ 1) × (request_at os ≡ Err w)) ⊎ (((opcode os ≡ 2) × (choke os ≡ false) × (accept_at os ≡ Err w)) ⊎ (NoCode (opcode os) × (BadOpcode ≡ w)))

code_by : (os : List ℕ) (w : TransportRefusal) (a b c d e f chokes : Bool) → (opcode os == 1) ≡ a → (opcode os == 2) ≡ b → (opcode os == 3) ≡ c → (opcode os == 4) ≡ d → (opcode os == 5) ≡ e → (opcode os == 6) ≡ f → choke os ≡ chokes
    → by_code os a b c d e f chokes ≡ Err w → CodeFault os w
code_by os w true b c d e f chokes ha hb hc hd he hf hx h = inl (eqb-true (opcode os) 1 ha, h)
code_by os w false true c d e f true ha hb hc hd he hf hx h = absurd cc
code_by os w false true c d e f false ha hb hc hd he hf hx h = inr (inl (eqb-true (opcode os) 2 hb, hx, h))
code_by os w false false true d e f chokes ha hb hc hd he hf hx h = absurd cc
code_by os w false false false true e f chokes ha hb hc hd he hf hx h = absurd cc
code_by os w false false false false true f chokes ha hb hc hd he hf hx h = absurd cc
code_by os w false false false false false true chokes ha hb hc hd he hf hx h = absurd cc
code_by os w false false false false false false chokes ha hb hc hd he hf hx h =
    inr (inr (record { one = ha; two = hb; three = hc; four = hd; five = he; six = hf }, cc))

pub code_err : (os : List ℕ) (w : TransportRefusal) → of_opcode os ≡ Err w → CodeFault os w
code_err os w h =
    code_by os w (opcode os == 1) (opcode os == 2) (opcode os == 3) (opcode os == 4) (opcode os == 5) (opcode os == 6) (choke os) refl refl refl refl refl refl refl h

no_code_by : (os : List ℕ) (a b c d e f chokes : Bool) → a ≡ false → b ≡ false → c ≡ false → d ≡ false → e ≡ false → f ≡ false → by_code os a b c d e f chokes ≡ Err BadOpcode
no_code_by os a b c d e f chokes ha hb hc hd he hf = rw (ha, hb, hc, hd, he, hf) refl

pub no_code : (os : List ℕ) → NoCode (opcode os) → of_opcode os ≡ Err BadOpcode
no_code os n =
    no_code_by os (opcode os == 1) (opcode os == 2) (opcode os == 3) (opcode os == 4) (opcode os == 5) (opcode os == 6) (choke os) n.one n.two n.three n.four n.five n.six

-- ---- by the number of octets

abbrev pub by_size : Bool → Bool → ℕ → Result Transport TransportRefusal → Result Transport TransportRefusal
by_size long short len r = cond long (Err TooLong) (cond short (Err (Short len)) r)

pub size_is : (os : List ℕ) → transport_at os ≡ by_size (nat_lt 241 (length os)) (nat_lt (length os) 5) (length os) (of_opcode os)
unfolding transport_at
size_is os = refl

size_ok : (long short : Bool) (len : ℕ) (r : Result Transport TransportRefusal) (t : Transport) → by_size long short len r ≡ Ok t → (long ≡ false) × (short ≡ false) × (r ≡ Ok t)
size_ok false false len r t h = (refl, refl, h)
size_ok false true len r t h = absurd cc
size_ok true short len r t h = absurd cc

pub record ReadTransport (os : List ℕ) (t : Transport) : Type 0 where
  pub high : length os ≤ 241
  pub read : of_opcode os ≡ Ok t

pub transport_ok : (os : List ℕ) (t : Transport) → transport_at os ≡ Ok t → ReadTransport os t
transport_ok os t h =
    let k = size_ok (nat_lt 241 (length os)) (nat_lt (length os) 5) (length os) (of_opcode os) t (sym (size_is os) ∙ h) in
    record { high = ltb-false 241 (length os) k.0; read = k.2 }
