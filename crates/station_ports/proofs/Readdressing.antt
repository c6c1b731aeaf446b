-- Frames that get another destination or source.
use Rattle.std.proofs.Common.{◌≡◌, ◌≤◌, ◌+◌, ◌-◌, ◌*◌, ◌∙◌, ℕ, Bool, true, false, if◌then◌else◌, List, [], ◌∷◌, ◌++◌, length, take, drop, slice_index, refl, sym, ap, arith}
use Rattle.std.proofs.lemmas.List.{append_assoc, append-nil, length-append, length-map, take_at, drop_at, drop-drop, get_or-append-add, get_or_at}
use Rattle.ax_address.specs.declared.address.Address.{Address}
use Rattle.ax_address.specs.Callsign.{Callsign, IsCallsign}
use Rattle.ax_address.specs.Octets.{address_octets, ssid_octet}
use Rattle.ax_address.proofs.CallOctets.{doubles}
use Rattle.ax_frame.specs.declared.head.Head.{Head}
use Rattle.ax_frame.specs.Frames.{addresses_octets, pid_octets, SpellsHead}
use Rattle.ax_frame.specs.Controls.{control_octets}
use Rattle.ax_frame.proofs.Addresses.{six_letters}
use Rattle.station_ports.specs.Headings.{is_direct}
use Rattle.station_ports.specs.Readdressed.{with_ssid, with_call_at, address_with}
use Rattle.station_ports.specs.Laws.{SpellsWithDest, SpellsWithSource}

pub six_doubles : (letters : List ℕ) (ssid : ℕ) → IsCallsign letters ssid → length (doubles letters) ≡ 6
six_doubles letters ssid h = length-map letters (λ b. 2 * b) ∙ six_letters letters ssid h

seven_octets : (a : Address) (last : Bool) → IsCallsign a.call.letters a.call.ssid → length (address_octets a last) ≡ 7
seven_octets a last h =
    let six = six_doubles a.call.letters a.call.ssid h in
    omega (arith, length-append (doubles a.call.letters) (ssid_octet a last ∷ []), six)

-- in the octet of an SSID only that changes
other_ssid : (bit7 : Bool) (reserved old new : ℕ) (last : Bool) → reserved ≤ 3 → old ≤ 15 → new ≤ 15 →
    with_ssid ((if bit7 then 128 else 0) + 32 * reserved + 2 * old + (if last then 1 else 0)) new ≡ (if bit7 then 128 else 0) + 32 * reserved + 2 * new + (if last then 1 else 0)
other_ssid true reserved old new true r o n = omega (arith, r, o, n)
other_ssid true reserved old new false r o n = omega (arith, r, o, n)
other_ssid false reserved old new true r o n = omega (arith, r, o, n)
other_ssid false reserved old new false r o n = omega (arith, r, o, n)

octet_of_ssid : (a : Address) (last : Bool) (rest : List ℕ) → IsCallsign a.call.letters a.call.ssid → slice_index (address_octets a last ++ rest) 6 ≡ ssid_octet a last
octet_of_ssid a last rest h =
    ap (λ octets. slice_index octets 6) (append_assoc (doubles a.call.letters) (ssid_octet a last ∷ []) rest)
    ∙ get_or_at (doubles a.call.letters) (ssid_octet a last) rest 0 6 (six_doubles a.call.letters a.call.ssid h)

-- an address behind others gets another call
readdressed : (front : List ℕ) (a : Address) (last : Bool) (rest : List ℕ) (c : Callsign) → IsCallsign a.call.letters a.call.ssid → c.ssid ≤ 15 →
    with_call_at (length front) c (front ++ (address_octets a last ++ rest)) ≡ front ++ (address_octets (address_with c a) last ++ rest)
readdressed front a last rest c h small =
    let behind = address_octets a last ++ rest in
    let octets = front ++ behind in
    let at = length front in
    let new = ssid_octet (address_with c a) last in
    let taken : take at octets ≡ front = take_at front behind at refl in
    let bits : slice_index octets (at + 6) ≡ ssid_octet a last = get_or-append-add front behind 6 0 ∙ octet_of_ssid a last rest h in
    let dropped : drop (at + 7) octets ≡ rest =
    sym (drop-drop 7 at octets) ∙ (ap (drop 7) (drop_at front behind at refl) ∙ drop_at (address_octets a last) rest 7 (seven_octets a last h)) in
    let ssid : with_ssid (ssid_octet a last) c.ssid ≡ new = other_ssid a.bit7 a.reserved a.call.ssid c.ssid last a.two_bits h.small small in
    ap (λ xs. (xs ++ doubles c.letters) ++ with_ssid (slice_index octets (at + 6)) c.ssid ∷ drop (at + 7) octets) taken
    ∙ (ap (λ o. (front ++ doubles c.letters) ++ with_ssid o c.ssid ∷ drop (at + 7) octets) bits
    ∙ (ap (λ xs. (front ++ doubles c.letters) ++ with_ssid (ssid_octet a last) c.ssid ∷ xs) dropped
    ∙ (ap (λ o. (front ++ doubles c.letters) ++ o ∷ rest) ssid
    ∙ (append_assoc front (doubles c.letters) (new ∷ rest)
    ∙ ap (λ xs. front ++ xs) (sym (append_assoc (doubles c.letters) (new ∷ []) rest))))))

-- the octets of a frame, part by part
in_parts : (a b c d e : List ℕ) → (((a ++ b) ++ c) ++ d) ++ e ≡ a ++ (b ++ (c ++ (d ++ e)))
in_parts a b c d e = append_assoc ((a ++ b) ++ c) d e ∙ (append_assoc (a ++ b) c (d ++ e) ∙ append_assoc a b (c ++ (d ++ e)))

pub with_dest : SpellsWithDest
with_dest size f octets c call h =
    let old = f.head.dest in
    let more = addresses_octets (f.head.source ∷ f.head.path.items) in
    let control = control_octets size f.control in
    let pid = pid_octets f.pid in
    let rest = more ++ (control ++ (pid ++ f.info)) in
    record {
      calls = (call, h.calls.1);
      eight = h.eight;
      parts = h.parts;
      spelled =
          ap (with_call_at 0 c) (h.spelled ∙ in_parts (address_octets old false) more control pid f.info)
          ∙ (readdressed [] old false rest c h.calls.0 call.small
          ∙ sym (in_parts (address_octets (address_with c old) false) more control pid f.info));
    }

-- behind the source stand the repeaters
abbrev behind_source : List Address → List ℕ
behind_source [] = []
behind_source (r ∷ path) = addresses_octets (r ∷ path)

source_first : (a : Address) (path : List Address) → addresses_octets (a ∷ path) ≡ address_octets a (is_direct path) ++ behind_source path
source_first a [] = sym (append-nil (address_octets a true))
source_first a (r ∷ path) = refl

-- the octets of a head are at least fourteen
pub long_head : (h : Head) (octets : List ℕ) → SpellsHead h octets → 14 ≤ length octets
long_head h octets s =
    let dest = address_octets h.dest false in
    let source = address_octets h.source (is_direct h.path.items) in
    let path = behind_source h.path.items in
    let whole : length octets ≡ length (dest ++ (source ++ path)) = ap length (s.spelled ∙ ap (λ xs. dest ++ xs) (source_first h.source h.path.items)) in
    omega (arith, whole, seven_octets h.dest false s.calls.0, seven_octets h.source (is_direct h.path.items) s.calls.1.0, length-append dest (source ++ path), length-append source path)

-- the octets of a frame, with its source by itself
from_parts : (a s r c d e b : List ℕ) → b ≡ s ++ r → (((a ++ b) ++ c) ++ d) ++ e ≡ a ++ (s ++ (r ++ (c ++ (d ++ e))))
from_parts a s r c d e b h =
    in_parts a b c d e ∙ (ap (λ xs. a ++ (xs ++ (c ++ (d ++ e)))) h ∙ ap (λ xs. a ++ xs) (append_assoc s r (c ++ (d ++ e))))

pub with_source : SpellsWithSource
with_source size f octets c call h =
    let dest = address_octets f.head.dest false in
    let old = f.head.source in
    let path = f.head.path.items in
    let last = is_direct path in
    let repeaters = behind_source path in
    let control = control_octets size f.control in
    let pid = pid_octets f.pid in
    let rest = repeaters ++ (control ++ (pid ++ f.info)) in
    let seven : length dest ≡ 7 = seven_octets f.head.dest false h.calls.0 in
    let split = from_parts dest (address_octets old last) repeaters control pid f.info (addresses_octets (old ∷ path)) (source_first old path) in
    let joined = from_parts dest (address_octets (address_with c old) last) repeaters control pid f.info (addresses_octets (address_with c old ∷ path)) (source_first (address_with c old) path) in
    record {
      calls = (h.calls.0, (call, h.calls.1.1));
      eight = h.eight;
      parts = h.parts;
      spelled =
          ap (with_call_at 7 c) (h.spelled ∙ split)
          ∙ (ap (λ at. with_call_at at c (dest ++ (address_octets old last ++ rest))) (sym seven)
          ∙ (readdressed dest old last rest c h.calls.1.0 call.small
          ∙ sym joined));
    }
