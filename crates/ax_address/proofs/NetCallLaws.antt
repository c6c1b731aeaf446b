-- Seven octets, of a call in a broadcast or datagram or of an address: what is spelled is read.
use Rattle.std.proofs.Common.{nat_le, slice_index, ◌≡◌, ◌+◌, ◌-◌, ◌*◌, ◌/◌, ◌%◌, ◌++◌, ◌∙◌, ℕ, refl, sym, ap, List, [], ◌∷◌, length, replicate, take, get_or, arith}
use Rattle.std.specs.Prelude.{None, Ok}
use Rattle.std.proofs.lemmas.List.{take_at, drop_at, length-append, length-map, length-replicate}
use Rattle.ax_address.specs.Callsign.{Callsign, IsCallsign, name_in, padded}
use Rattle.ax_address.specs.Octets.{fault_in, address_fault, address_in, ssid_octet, SpelledIsHeld, SpellsNetCall, SpelledNetCallIsRead, WrittenNetCallSpellsIt, NetCallWrittenAgainIsTheSame, net_call_in, net_call_octets, heeded_call}
use Rattle.ax_address.proofs.AddressLaws.{call_has_none, halves-doubles, bits_are, same_call_is, same_address}
use Rattle.ax_address.proofs.CallOctets.{doubles, halves, seven, good}

pub six_doubled : (c : Callsign) → IsCallsign c.letters c.ssid → length (doubles c.letters) ≡ 6
six_doubled c h =
    let name = name_in c.letters in
    let six : length (padded name) ≡ 6 = omega (arith, length-append name (replicate (6 - length name) 32), length-replicate {A = ℕ} (6 - length name) 32, h.six) in
    length-map c.letters (λ b. 2 * b) ∙ (ap length h.spaces ∙ six)

-- a call is written in seven octets
pub call_len : (c : Callsign) → IsCallsign c.letters c.ssid → length (net_call_octets c) ≡ 7
call_len c h = omega (arith, six_doubled c h, length-append (doubles c.letters) ((96 + 2 * c.ssid) ∷ []))

last_of : (os : List ℕ) (o : ℕ) → length os ≡ 6 → get_or (os ++ o ∷ []) 6 0 ≡ o
last_of (a ∷ b ∷ c ∷ d ∷ e ∷ f ∷ []) o h = refl
last_of [] o h = absurd (omega arith)
last_of (a ∷ []) o h = absurd (omega arith)
last_of (a ∷ b ∷ []) o h = absurd (omega arith)
last_of (a ∷ b ∷ c ∷ []) o h = absurd (omega arith)
last_of (a ∷ b ∷ c ∷ d ∷ []) o h = absurd (omega arith)
last_of (a ∷ b ∷ c ∷ d ∷ e ∷ []) o h = absurd (omega arith)
last_of (a ∷ b ∷ c ∷ d ∷ e ∷ f ∷ g ∷ more) o h = absurd (omega arith)

abbrev pub call_made : List ℕ → ℕ → Callsign
call_made letters ssid = record { letters = letters; ssid = ssid }

call_in_octets : (c : Callsign) (o : ℕ) → IsCallsign c.letters c.ssid → o / 2 % 16 ≡ c.ssid → net_call_in (doubles c.letters ++ o ∷ []) ≡ c
call_in_octets c o h e =
    let six = six_doubled c h in
    let letters : halves (take 6 (doubles c.letters ++ o ∷ [])) ≡ c.letters = ap halves (take_at (doubles c.letters) (o ∷ []) 6 six) ∙ halves-doubles c.letters in
    let ssid : get_or (doubles c.letters ++ o ∷ []) 6 0 / 2 % 16 ≡ c.ssid = ap (λ k. k / 2 % 16) (last_of (doubles c.letters) o six) ∙ e in
    ap (λ ls. call_made ls (get_or (doubles c.letters ++ o ∷ []) 6 0 / 2 % 16)) letters ∙ ap (call_made c.letters) ssid

pub spelled_is_read : SpelledNetCallIsRead
spelled_is_read c octets h =
    let none : address_fault octets ≡ None = ap address_fault h.spelled ∙ call_has_none c.letters c.ssid (h.last ∷ []) h.is_call in
    let call : net_call_in octets ≡ c = ap net_call_in h.spelled ∙ call_in_octets c h.last h.is_call h.ssid in
    rw none (ap Ok call)

pub written_spells : WrittenNetCallSpellsIt
written_spells c h = record {
  is_call = h;
  last = 96 + 2 * c.ssid;
  spelled = refl;
  ssid = let small = h.small in omega arith;
}

-- what is heeded of a call's octets is its letters and its SSID
pub call_parts : (ls : List ℕ) (o ssid : ℕ) → length ls ≡ 6 → o / 2 % 16 ≡ ssid → heeded_call (ls ++ o ∷ []) ≡ ls ++ ssid ∷ []
call_parts ls o ssid h e = rw (take_at ls (o ∷ []) 6 h, drop_at ls (o ∷ []) 6 h) (ap (λ k. ls ++ k ∷ []) e)

pub call_heeded : (c : Callsign) (os : List ℕ) → SpellsNetCall c os → heeded_call os ≡ doubles c.letters ++ c.ssid ∷ []
call_heeded c os h = ap heeded_call h.spelled ∙ call_parts (doubles c.letters) h.last c.ssid (six_doubled c h.is_call) h.ssid

pub written_again : NetCallWrittenAgainIsTheSame
written_again c os h = call_heeded c (net_call_octets c) (written_spells c h.is_call) ∙ sym (call_heeded c os h)

-- the octets before the seventh, halved, are the letters
pub letters_taken : (os : List ℕ) → length os ≡ 7
    → halves (take 6 os) ≡ get_or os 0 0 / 2 ∷ get_or os 1 0 / 2 ∷ get_or os 2 0 / 2 ∷ get_or os 3 0 / 2 ∷ get_or os 4 0 / 2 ∷ get_or os 5 0 / 2 ∷ []
letters_taken os len = ap (λ xs. halves (take 6 xs)) (seven os len)

-- and doubled again they are the octets
pub six_are : (os : List ℕ) → length os ≡ 7 → address_fault os ≡ None
    → os ≡ doubles (get_or os 0 0 / 2 ∷ get_or os 1 0 / 2 ∷ get_or os 2 0 / 2 ∷ get_or os 3 0 / 2 ∷ get_or os 4 0 / 2 ∷ get_or os 5 0 / 2 ∷ []) ++ get_or os 6 0 ∷ []
six_are os len h =
    let six = get_or os 0 0 ∷ get_or os 1 0 ∷ get_or os 2 0 ∷ get_or os 3 0 ∷ get_or os 4 0 ∷ get_or os 5 0 ∷ [] in
    let fault : fault_in six ≡ None = ap address_fault (sym (seven os len)) ∙ h in
    seven os len ∙ ap (λ xs. xs ++ get_or os 6 0 ∷ []) (sym (good six refl fault).doubles_are)

-- six letters one by one
pub six_letters : (ls : List ℕ) (o : ℕ) → length ls ≡ 6
    → 2 * get_or ls 0 0 ∷ 2 * get_or ls 1 0 ∷ 2 * get_or ls 2 0 ∷ 2 * get_or ls 3 0 ∷ 2 * get_or ls 4 0 ∷ 2 * get_or ls 5 0 ∷ o ∷ [] ≡ doubles ls ++ o ∷ []
six_letters (a ∷ b ∷ c ∷ d ∷ e ∷ f ∷ []) o h = refl
six_letters [] o h = absurd (omega arith)
six_letters (a ∷ []) o h = absurd (omega arith)
six_letters (a ∷ b ∷ []) o h = absurd (omega arith)
six_letters (a ∷ b ∷ c ∷ []) o h = absurd (omega arith)
six_letters (a ∷ b ∷ c ∷ d ∷ []) o h = absurd (omega arith)
six_letters (a ∷ b ∷ c ∷ d ∷ e ∷ []) o h = absurd (omega arith)
six_letters (a ∷ b ∷ c ∷ d ∷ e ∷ f ∷ g ∷ more) o h = absurd (omega arith)

-- ---- an address

pub spelled_is_held : SpelledIsHeld
spelled_is_held a last octets h =
    let c = a.call in
    let o = ssid_octet a last in
    let six = six_doubled c h.is_call in
    let at : slice_index octets 6 ≡ o = ap (λ os. slice_index os 6) h.spelled ∙ last_of (doubles c.letters) o six in
    let letters : halves (take 6 octets) ≡ c.letters = ap (λ os. halves (take 6 os)) h.spelled ∙ (ap halves (take_at (doubles c.letters) (o ∷ []) 6 six) ∙ halves-doubles c.letters) in
    let parts = bits_are a.bit7 a.reserved c.ssid last a.two_bits h.is_call.small in
    let call : (address_in octets).call ≡ c = same_call_is (address_in octets).call c letters (ap (λ k. k / 2 % 16) at ∙ parts.2) in
    same_address (address_in octets) a call (ap (nat_le 128) at ∙ parts.0) (ap (λ k. k / 32 % 4) at ∙ parts.1)
