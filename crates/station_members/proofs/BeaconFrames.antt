-- A beacon's frame is short enough, and its text stands behind its head.
use Rattle.std.proofs.Common.{◌≡◌, ◌<◌, ◌≤◌, ◌↔◌, ℕ, refl, List, [], ◌∷◌, ◌++◌, length, arith, true, false, append-nil, length-append, ap, subst}
use Rattle.std.specs.Prelude.{Result, Ok, Err, OnOk, IsErr, Some}
use Rattle.ax_address.specs.Callsign.{Callsign, IsCallsign}
use Rattle.arrayvec.specs.ArrayVec.{ArrayVec}
use Rattle.ax_address.specs.declared.address.Address.{Address}
use Rattle.ax_frame.proofs.Spelled.{addresses_length}
use Rattle.ax_frame.specs.declared.control.Control.TheVariants.{Ui}
use Rattle.ax_frame.specs.declared.frame.Full.{Full}
use Rattle.ax_frame.specs.Frames.{Frame, Spells, addresses_octets, frame, frame_octets}
use Rattle.ax_address.specs.Octets.{address_of}

abbrev pub with_info : Callsign → Callsign → List ℕ → Frame
with_info to from info = frame (record { dest = address_of to true; source = address_of from false; path = record { items = [] } }) (Ui false) (Some 240) info

abbrev pub front : Callsign → Callsign → List ℕ
front to from = addresses_octets (address_of to true ∷ address_of from false ∷ [])

head_length : (to from : Callsign) → IsCallsign to.letters to.ssid → IsCallsign from.letters from.ssid → length (frame_octets 8 (with_info to from [])) ≤ 1023
head_length to from a b =
    let few = addresses_length (address_of to true ∷ address_of from false ∷ []) (a, (b, tt)) in
    let one = length-append (front to from) (3 ∷ []) in
    let two = length-append (front to from ++ 3 ∷ []) (240 ∷ []) in
    let all = length-append ((front to from ++ 3 ∷ []) ++ 240 ∷ []) [] in
    omega (arith, few, one, two, all)

by_result : (r : Result (Unit {0}) Full) (f : Frame) (out : List ℕ) → OnOk r (Spells 8 f out) → (IsErr r ↔ (1023 < length (frame_octets 8 f)))
    → length (frame_octets 8 f) ≤ 1023 → out ≡ frame_octets 8 f
by_result (Ok _) f out spells full short = spells.spelled
by_result (Err e) f out spells full short = let long = full.0 refl in absurd (omega (arith, short, long))

abbrev pub of_addresses : Address → Address → ArrayVec Address → Frame
of_addresses dest source path = frame (record { dest = dest; source = source; path = path }) (Ui false) (Some 240) []

-- what is written where both are calls
pub wrote : (r : Result (Unit {0}) Full) (to from : Callsign) (dest source : Address) (path : ArrayVec Address) (out : List ℕ) → IsCallsign to.letters to.ssid
    → IsCallsign from.letters from.ssid → dest ≡ address_of to true → source ≡ address_of from false → path.items ≡ [] → OnOk r (Spells 8 (of_addresses dest source path) out)
    → (IsErr r ↔ (1023 < length (frame_octets 8 (of_addresses dest source path)))) → out ≡ frame_octets 8 (with_info to from [])
wrote r to from dest source path out a b to_is from_is path_is spells full =
    let is : of_addresses dest source path ≡ with_info to from [] = λ i. of_addresses (to_is i) (from_is i) (record { items = path_is i }) in
    by_result r (with_info to from []) out (subst (λ f. OnOk r (Spells 8 f out)) is spells)
    (subst (λ f. IsErr r ↔ (1023 < length (frame_octets 8 f))) is full) (head_length to from a b)

pub with_text : (to from : Callsign) (text : List ℕ) → frame_octets 8 (with_info to from []) ++ text ≡ frame_octets 8 (with_info to from text)
with_text to from text = ap (λ octets. octets ++ text) (append-nil ((front to from ++ 3 ∷ []) ++ 240 ∷ []))
