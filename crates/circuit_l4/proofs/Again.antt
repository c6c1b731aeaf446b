-- Octets that are read and written again.
use Rattle.std.proofs.Common.{◌≡◌, ◌+◌, ◌*◌, ◌/◌, ◌%◌, ◌<◌, ◌≤◌, ◌++◌, ◌∙◌, ℕ, refl, sym, ap, List, [], ◌∷◌, length, map, take, drop, get_or, cond, arith}
use Rattle.std.specs.Prelude.{◌==◌}
use Rattle.std.proofs.lemmas.Bool.Decides.{nat_tests}
use Rattle.std.proofs.lemmas.List.{take_at, get_or-append_right}
use Rattle.ax_address.specs.Callsign.{Callsign}
use Rattle.ax_address.specs.Octets.{SpellsNetCall, net_call_octets}
use Rattle.circuit_l4.specs.declared.pair.Pair.{Pair}
use Rattle.circuit_l4.specs.declared.transport.Flags.{Flags}
use Rattle.circuit_l4.specs.declared.transport.Transport.TheVariants.{Request, Accept, Refuse, Disconnect, Disconnected, Info, InfoAck}
use Rattle.circuit_l4.specs.Transports.{pair_at, flags_in, flag_bits}
use Rattle.l3_datagram.specs.Datagrams.{plain_call}
use Rattle.circuit_l4.specs.Spelling.{WrittenAgainIsTheSame}
use Rattle.circuit_l4.proofs.Spelling.{doubled_six}

-- five octets and the rest
laid : (octets : List ℕ) → 5 ≤ length octets → octets ≡ get_or octets 0 0 ∷ get_or octets 1 0 ∷ get_or octets 2 0 ∷ get_or octets 3 0 ∷ get_or octets 4 0 ∷ drop 5 octets
laid [] h = absurd (omega arith)
laid (_ ∷ []) h = absurd (omega arith)
laid (_ ∷ _ ∷ []) h = absurd (omega arith)
laid (_ ∷ _ ∷ _ ∷ []) h = absurd (omega arith)
laid (_ ∷ _ ∷ _ ∷ _ ∷ []) h = absurd (omega arith)
laid (_ ∷ _ ∷ _ ∷ _ ∷ _ ∷ _) h = refl

alike : (p q : Pair) (t u r s c d : ℕ) (x y : List ℕ) → p ≡ q → t ≡ u → r ≡ s → c ≡ d → x ≡ y → p.index ∷ p.ident ∷ t ∷ r ∷ c ∷ x ≡ q.index ∷ q.ident ∷ u ∷ s ∷ d ∷ y
alike p q t u r s c d x y a b e f g = rw (a, b, e, f, g) refl

-- two octets, three that are written, and the rest
pair_first : (to : Pair) (octets : List ℕ) (code : ℕ) (more : List ℕ) → 5 ≤ length octets → pair_at 0 octets ≡ to → to.index ∷ to.ident ∷ 0 ∷ 0 ∷ code ∷ more ≡ take 2 octets ++ 0 ∷ 0 ∷ code ∷ more
pair_first to octets code more low h =
    alike to (pair_at 0 octets) 0 0 0 0 code code more more (sym h) refl refl refl refl
    ∙ ap (λ xs. take 2 xs ++ 0 ∷ 0 ∷ code ∷ more) (sym (laid octets low))

same_call : (c : Callsign) (octets : List ℕ) → SpellsNetCall c octets → net_call_octets c ≡ plain_call octets
same_call c octets h =
    let doubled = map (λ b. 2 * b) c.letters in
    let six = doubled_six c h.is_call in
    let front : take 6 (doubled ++ h.last ∷ []) ≡ doubled = take_at doubled (h.last ∷ []) 6 six in
    let back : get_or (doubled ++ h.last ∷ []) 6 0 ≡ h.last = get_or-append_right doubled (h.last ∷ []) 6 6 0 six (omega arith) in
    rw (h.spelled, front, back, h.ssid) refl

top_bit : (n : ℕ) → n < 2 → cond (n == 1) 128 0 ≡ 128 * n
top_bit n h = grind (arith, nat_tests)

next_bit : (n : ℕ) → n < 2 → cond (n == 1) 64 0 ≡ 64 * n
next_bit n h = grind (arith, nat_tests)

third_bit : (n : ℕ) → n < 2 → cond (n == 1) 32 0 ≡ 32 * n
third_bit n h = grind (arith, nat_tests)

same_code : (low : ℕ) (octets : List ℕ) (flags : Flags) → get_or octets 4 0 < 256 → get_or octets 4 0 % 32 ≡ low → flags_in octets ≡ flags → low + flag_bits flags ≡ get_or octets 4 0
same_code low octets flags byte h f =
    let o = get_or octets 4 0 in
    let bits : low + flag_bits (flags_in octets) ≡ o =
    omega (arith, byte, h, top_bit (o / 128 % 2) (omega arith), next_bit (o / 64 % 2) (omega arith), third_bit (o / 32 % 2) (omega arith)) in
    ap (λ (fs : Flags). low + flag_bits fs) (sym f) ∙ bits

pub written_again : WrittenAgainIsTheSame
written_again (Request pair window user node) octets byte h =
    let s = h.1 in
    let u = plain_call (take 7 (drop 6 octets)) in
    let n = plain_call (take 7 (drop 13 octets)) in
    let of_user : net_call_octets user ≡ u = same_call user (take 7 (drop 6 octets)) s.of_user in
    let at_node : net_call_octets node ≡ n = same_call node (take 7 (drop 13 octets)) s.at_node in
    rw (of_user, at_node, ← s.proposed) (ap (λ xs. xs ++ n) (pair_first pair octets 1 (get_or octets 5 0 ∷ u) h.0.whole h.0.is_for))
written_again (Accept to own window) octets byte h =
    let s = h.1 in
    alike to (pair_at 0 octets) own.index (get_or octets 2 0) own.ident (get_or octets 3 0) 2 2 (window ∷ []) (get_or octets 5 0 ∷ []) (sym h.0.is_for) (ap (λ (p : Pair). p.index) (sym s.by)) (ap (λ (p : Pair). p.ident) (sym s.by)) refl (ap (λ w. w ∷ []) (sym s.common_window))
    ∙ ap (λ xs. take 4 xs ++ 2 ∷ get_or octets 5 0 ∷ []) (sym (laid octets h.0.whole))
written_again (Refuse to) octets byte h = pair_first to octets 130 (0 ∷ []) h.0.whole h.0.is_for
written_again (Disconnect to) octets byte h = pair_first to octets 3 [] h.whole h.is_for
written_again (Disconnected to) octets byte h = pair_first to octets 4 [] h.whole h.is_for
written_again (Info to tx rx flags text) octets byte h =
    let s = h.1 in
    alike to (pair_at 0 octets) tx (get_or octets 2 0) rx (get_or octets 3 0) (5 + flag_bits flags) (get_or octets 4 0) text.items (drop 5 octets) (sym h.0.is_for) (sym s.number) (sym s.expected) (same_code 5 octets flags byte h.0.has_code s.flagged) (sym s.told)
    ∙ sym (laid octets h.0.whole)
written_again (InfoAck to rx flags) octets byte h =
    alike to (pair_at 0 octets) 0 0 rx (get_or octets 3 0) (6 + flag_bits flags) (get_or octets 4 0) [] [] (sym h.0.is_for) refl (sym h.1) (same_code 6 octets flags byte h.0.has_code h.2) refl
    ∙ ap (λ xs. take 2 xs ++ 0 ∷ take 2 (drop 3 xs)) (sym (laid octets h.0.whole))
