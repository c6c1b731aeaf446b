-- Frames that are sent fit.
use Rattle.std.proofs.Common.{◌≡◌, ◌<◌, ◌≤◌, ◌-◌, ◌*◌, ◌++◌, ◌∙◌, ℕ, refl, ap, List, [], ◌∷◌, length, map, replicate, arith, Bool, true, false}
use Rattle.std.specs.Prelude.{Some, Result, Ok, Err, OnOk, IsErr}
use Rattle.std.proofs.lemmas.List.{length-append, length-map, length-replicate}
use Rattle.arrayvec.specs.ArrayVec.{ArrayVec}
use Rattle.ax_address.specs.Callsign.{Callsign, IsCallsign, name_in, padded}
use Rattle.ax_address.specs.Octets.{address_octets, address_of, ssid_octet}
use Rattle.ax_address.specs.declared.address.Address.{Address}
use Rattle.ax_frame.specs.declared.control.Control.TheVariants.{Ui}
use Rattle.ax_frame.specs.declared.frame.Full.{Full}
use Rattle.ax_frame.specs.Frames.{Spells, frame, frame_octets}
use Rattle.tool_cmd.specs.Gateways.{ui_frame, ui_octets}

address_len : (a : Address) (last : Bool) → IsCallsign a.call.letters a.call.ssid → length (address_octets a last) ≡ 7
address_len a last h =
    let name = name_in a.call.letters in
    let six : length (padded name) ≡ 6 = omega (arith, length-append name (replicate (6 - length name) 32), length-replicate {A = ℕ} (6 - length name) 32, h.six) in
    let doubled : length (map (λ b. 2 * b) a.call.letters) ≡ 6 = length-map a.call.letters (λ b. 2 * b) ∙ (ap length h.spaces ∙ six) in
    omega (arith, doubled, length-append (map (λ b. 2 * b) a.call.letters) (ssid_octet a last ∷ []))

sent_len : (call to : Callsign) (pid : ℕ) (info : List ℕ) → IsCallsign call.letters call.ssid → IsCallsign to.letters to.ssid → length info ≤ 256 → length (ui_octets call to pid info) ≤ 272
sent_len call to pid info h g n =
    let a = address_octets (address_of to true) false in
    let b = address_octets (address_of call false) true in
    let la : length a ≡ 7 = address_len (address_of to true) false g in
    let lb : length b ≡ 7 = address_len (address_of call false) true h in
    omega (arith, length-append a b, length-append (a ++ b) (3 ∷ []), length-append ((a ++ b) ++ 3 ∷ []) (pid ∷ []), length-append (((a ++ b) ++ 3 ∷ []) ++ pid ∷ []) info)

by_result : (r : Result Unit Full) (call to : Callsign) (pid : ℕ) (info out : List ℕ) → IsCallsign call.letters call.ssid → IsCallsign to.letters to.ssid → length info ≤ 256
    → (IsErr r → 1023 < length (ui_octets call to pid info)) → OnOk r (Spells 8 (ui_frame call to pid info) out) → out ≡ ui_octets call to pid info
by_result (Ok x) call to pid info out h g n full ok = ok.spelled
by_result (Err e) call to pid info out h g n full ok = absurd (omega (arith, full refl, sent_len call to pid info h g n))

pub written : (r : Result Unit Full) (d s : Address) (path : ArrayVec Address) (call to : Callsign) (pid : ℕ) (info out : List ℕ) → d ≡ address_of to true → s ≡ address_of call false → path.items ≡ []
    → IsCallsign call.letters call.ssid → IsCallsign to.letters to.ssid → length info ≤ 256
    → (IsErr r → 1023 < length (frame_octets 8 (frame (record { dest = d; source = s; path = path }) (Ui false) (Some pid) info)))
    → OnOk r (Spells 8 (frame (record { dest = d; source = s; path = path }) (Ui false) (Some pid) info) out) → out ≡ ui_octets call to pid info
written r d s path call to pid info out e f p h g n full ok =
    by_result r call to pid info out h g n
    (rw (e, f) at (rw (path_is path p) at full)) (rw (e, f) at (rw (path_is path p) at ok))
  where
    path_is : (q : ArrayVec Address) → q.items ≡ [] → q ≡ record { items = [] }
    path_is q i = ap (λ xs. record { items = xs }) i
