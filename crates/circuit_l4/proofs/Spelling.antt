-- What is spelled is read, and what is written spells it.
use Rattle.std.proofs.Common.{◌≡◌, ◌+◌, ◌-◌, ◌*◌, ◌/◌, ◌%◌, ◌<◌, ◌≤◌, ◌++◌, ◌∙◌, ℕ, refl, sym, ap, subst, List, [], ◌∷◌, length, replicate, map, take, drop, get_or, Bool, true, false, cond, Result, Ok, Err, arith}
use Rattle.std.specs.Prelude.{nat_lt, nat_le, ◌==◌}
use Rattle.std.proofs.lemmas.Bool.Decides.{nat_tests}
use Rattle.std.proofs.lemmas.List.{take_at, take_all, drop_at, length-append, length-map, length-replicate}
use Rattle.ax_address.specs.Callsign.{Callsign, IsCallsign, name_in, padded}
use Rattle.ax_address.specs.Octets.{SpellsNetCall, SpelledNetCallIsRead, WrittenNetCallSpellsIt, net_call_octets}
use Rattle.ax_address.proofs.NetCallLaws.{call_len}
use Rattle.circuit_l4.specs.declared.pair.Pair.{Pair}
use Rattle.circuit_l4.specs.declared.transport.Flags.{Flags}
use Rattle.circuit_l4.specs.declared.transport.Transport.{Transport}
use Rattle.circuit_l4.specs.declared.transport.Transport.TheVariants.{Request, Accept, Refuse, Disconnect, Disconnected, Info, InfoAck}
use Rattle.circuit_l4.specs.declared.transport.TransportRefusal.{TransportRefusal}
use Rattle.circuit_l4.specs.declared.transport.TransportRefusal.TheVariants.{Short, TooLong}
use Rattle.circuit_l4.specs.Transports.{headed, pair_at, flags_in, flag_bits, Begins, transport_octets, octet_at, call_from, fault_from, request_at, accept_at, of_opcode, transport_at}
use Rattle.circuit_l4.specs.Spelling.{SpelledTransportIsRead, WrittenTransportSpellsIt, WrittenTransportIsRead}

-- the tests of the length come out well

tested : (long short : Bool) (n : ℕ) (r : Result Transport TransportRefusal) → long ≡ false → short ≡ false → cond long (Err TooLong) (cond short (Err (Short n)) r) ≡ r
tested long short n r h g = rw (h, g) refl

pub sized : (octets : List ℕ) (r : Result Transport TransportRefusal) → 5 ≤ length octets → length octets ≤ 241 → of_opcode octets ≡ r → transport_at octets ≡ r
unfolding transport_at
sized octets r low high h =
    let long : nat_lt 241 (length octets) ≡ false = grind (arith, nat_tests) in
    let short : nat_lt (length octets) 5 ≡ false = grind (arith, nat_tests) in
    tested (nat_lt 241 (length octets)) (nat_lt (length octets) 5) (length octets) (of_opcode octets) long short ∙ h

begun : (code : ℕ) (to : Pair) (octets : List ℕ) (r : Result Transport TransportRefusal) → Begins code to octets → of_opcode octets ≡ r → transport_at octets ≡ r
begun code to octets r h g = sized octets r h.whole h.fits g

pub octet_there : (at : ℕ) (octets : List ℕ) → at < length octets → octet_at at octets ≡ Ok (get_or octets at 0)
octet_there at octets h =
    let more : nat_le (length octets) at ≡ false = grind (arith, nat_tests) in
    rw more refl

call_there : SpelledNetCallIsRead → (at : ℕ) (octets : List ℕ) (call : Callsign) → at + 7 ≤ length octets → SpellsNetCall call (take 7 (drop at octets)) → call_from at octets ≡ Ok call
call_there read at octets call len h =
    let whole : nat_lt (length octets) (at + 7) ≡ false = grind (arith, nat_tests) in
    rw whole (ap (fault_from at) (read call (take 7 (drop at octets)) h))

pub requested : (octets : List ℕ) (window : ℕ) (user node : Callsign) → octet_at 5 octets ≡ Ok window → call_from 6 octets ≡ Ok user → call_from 13 octets ≡ Ok node → request_at octets ≡ Ok (Request (pair_at 0 octets) window user node)
unfolding request_at
requested octets window user node w u n = rw (w, u, n) refl

pub on_accept : (octets : List ℕ) (window : ℕ) → octet_at 5 octets ≡ Ok window → accept_at octets ≡ Ok (Accept (pair_at 0 octets) (pair_at 2 octets) window)
unfolding accept_at
on_accept octets window w = rw w refl

pub spelled_is_read : SpelledNetCallIsRead → SpelledTransportIsRead
spelled_is_read read (Request pair window user node) octets h =
    let s = h.1 in
    let window_there : octet_at 5 octets ≡ Ok window = octet_there 5 octets (omega (arith, s.whole)) ∙ ap Ok s.proposed in
    let user_there : call_from 6 octets ≡ Ok user = call_there read 6 octets user (omega (arith, s.whole)) s.of_user in
    let node_there : call_from 13 octets ≡ Ok node = call_there read 13 octets node (omega (arith, s.whole)) s.at_node in
    let there = requested octets window user node window_there user_there node_there in
    begun 1 pair octets _ h.0 (rw h.0.has_code (there ∙ ap (λ (p : Pair). Ok (Request p window user node)) h.0.is_for))
spelled_is_read read (Accept to own window) octets h =
    let s = h.1 in
    let window_there : octet_at 5 octets ≡ Ok window = octet_there 5 octets (omega (arith, s.whole)) ∙ ap Ok s.common_window in
    let there = on_accept octets window window_there in
    begun 2 to octets _ h.0 (rw (h.0.has_code, s.on_accept) (there ∙ (ap (λ (p : Pair). Ok (Accept p (pair_at 2 octets) window)) h.0.is_for ∙ ap (λ (p : Pair). Ok (Accept to p window)) s.by)))
spelled_is_read read (Refuse to) octets h = begun 2 to octets _ h.0 (rw (h.0.has_code, h.1) (ap (λ (p : Pair). Ok (Refuse p)) h.0.is_for))
spelled_is_read read (Disconnect to) octets h = begun 3 to octets _ h (rw h.has_code (ap (λ (p : Pair). Ok (Disconnect p)) h.is_for))
spelled_is_read read (Disconnected to) octets h = begun 4 to octets _ h (rw h.has_code (ap (λ (p : Pair). Ok (Disconnected p)) h.is_for))
spelled_is_read read (Info to tx rx flags text) octets h =
    let s = h.1 in
    begun 5 to octets _ h.0 (rw (h.0.has_code, s.told, h.0.is_for, s.number, s.expected, s.flagged) refl)
spelled_is_read read (InfoAck to rx flags) octets h =
    begun 6 to octets _ h.0 (rw (h.0.has_code, h.0.is_for, h.1, h.2) refl)

pub doubled_six : (c : Callsign) → IsCallsign c.letters c.ssid → length (map (λ b. 2 * b) c.letters) ≡ 6
doubled_six c h =
    let name = name_in c.letters in
    let six : length (padded name) ≡ 6 = omega (arith, length-append name (replicate (6 - length name) 32), length-replicate {A = ℕ} (6 - length name) 32, h.six) in
    length-map c.letters (λ b. 2 * b) ∙ (ap length h.spaces ∙ six)

-- two calls of seven octets, one after the other
module _ (a b : List ℕ) (seven_a : length a ≡ 7) (seven_b : length b ≡ 7) where
  both : length (a ++ b) ≡ 14
  both = omega (arith, length-append a b)

  first : take 7 (a ++ b) ≡ a
  first = take_at a b 7 seven_a

  second : take 7 (drop 7 (a ++ b)) ≡ b
  second = ap (take 7) (drop_at a b 7 seven_a) ∙ take_all 7 b (omega (arith, seven_b))

-- the flags are read from the bits in which they are written, whatever code below 32 stands under them
one : Bool → ℕ
one a = cond a 1 0

weighed : (a : Bool) (n : ℕ) → cond a n 0 ≡ n * one a
unfolding one
weighed true n = omega arith
weighed false n = omega arith

at_most : (a : Bool) → one a ≤ 1
unfolding one
at_most true = omega arith
at_most false = omega arith

bit : (n : ℕ) (a : Bool) → n ≡ one a → (n == 1) ≡ a
unfolding one
bit n true h = rw h refl
bit n false h = rw h refl

abbrev bits : Bool → Bool → Bool → ℕ
bits a b c = cond a 128 0 + cond b 64 0 + cond c 32 0

module _ (code : ℕ) (small : code < 32) (a b c : Bool) where
  total : code + bits a b c ≡ code + 128 * one a + 64 * one b + 32 * one c
  total = omega (arith, weighed a 128, weighed b 64, weighed c 32)

  code_back : (code + bits a b c) % 32 ≡ code
  code_back = omega (arith, total, small)

  choke_back : ((code + bits a b c) / 128 % 2 == 1) ≡ a
  choke_back = bit _ a (omega (arith, total, small, at_most a, at_most b, at_most c))

  nak_back : ((code + bits a b c) / 64 % 2 == 1) ≡ b
  nak_back = bit _ b (omega (arith, total, small, at_most a, at_most b, at_most c))

  more_back : ((code + bits a b c) / 32 % 2 == 1) ≡ c
  more_back = bit _ c (omega (arith, total, small, at_most a, at_most b, at_most c))

abbrev flags_of : Bool → Bool → Bool → Flags
flags_of a b c = record { choke = a; nak = b; more = c }

flags_are : (p q r a b c : Bool) → p ≡ a → q ≡ b → r ≡ c → flags_of p q r ≡ flags_of a b c
flags_are p q r a b c h g k = rw (h, g, k) refl

flags_back : (code : ℕ) → code < 32 → (flags : Flags) (index ident third fourth : ℕ) (text : List ℕ) → flags_in (index ∷ ident ∷ third ∷ fourth ∷ (code + flag_bits flags) ∷ text) ≡ flags
flags_back code small flags index ident third fourth text =
    let a = flags.choke in
    let b = flags.nak in
    let c = flags.more in
    flags_are _ _ _ a b c (choke_back code small a b c) (nak_back code small a b c) (more_back code small a b c)

-- five octets and at most 236 more begin as a transport
begins : (code octet third fourth : ℕ) (to : Pair) (more : List ℕ) → octet % 32 ≡ code → length more ≤ 236 → Begins code to (headed to third fourth octet ++ more)
begins code octet third fourth to more h few = record { whole = omega arith; fits = omega (arith, few); has_code = h; is_for = refl }

pub written_spells : WrittenNetCallSpellsIt → WrittenTransportSpellsIt
written_spells written (Request pair window user node) h =
    let u = net_call_octets user in
    let n = net_call_octets node in
    let su = call_len user h.0 in
    let sn = call_len node h.1 in
    let size = both u n su sn in (
      begins 1 1 0 0 pair (window ∷ u ++ n) refl (omega (arith, size)),
      record {
        whole = omega (arith, size);
        proposed = refl;
        of_user = subst (SpellsNetCall user) (sym (first u n su sn)) (written user h.0);
        at_node = subst (SpellsNetCall node) (sym (second u n su sn)) (written node h.1);
      },
    )
written_spells written (Accept to own window) h =
    (begins 2 2 own.index own.ident to (window ∷ []) refl (omega arith), record { whole = omega arith; on_accept = refl; by = refl; common_window = refl })
written_spells written (Refuse to) h = (begins 2 130 0 0 to (0 ∷ []) refl (omega arith), refl)
written_spells written (Disconnect to) h = begins 3 3 0 0 to [] refl (omega arith)
written_spells written (Disconnected to) h = begins 4 4 0 0 to [] refl (omega arith)
written_spells written (Info to tx rx flags text) h = (
  begins 5 (5 + flag_bits flags) tx rx to text.items (code_back 5 (omega arith) flags.choke flags.nak flags.more) h,
  record { number = refl; expected = refl; flagged = flags_back 5 (omega arith) flags to.index to.ident tx rx text.items; told = refl },
)
written_spells written (InfoAck to rx flags) h = (
  begins 6 (6 + flag_bits flags) 0 rx to [] (code_back 6 (omega arith) flags.choke flags.nak flags.more) (omega arith),
  refl,
  flags_back 6 (omega arith) flags to.index to.ident 0 rx [],
)

pub written_is_read : SpelledTransportIsRead → WrittenTransportSpellsIt → WrittenTransportIsRead
written_is_read read written transport h = read transport (transport_octets transport) (written transport h)
