-- The call that is remembered goes last.
use Rattle.std.proofs.Common.{◌≡◌, ◌-◌, ◌∙◌, ℕ, zero, suc, Bool, true, List, [], ◌∷◌, ◌++◌, refl, ap, drop, length, if◌then◌else◌}
use Rattle.std.specs.List.{IsDistinct}
use Rattle.std.specs.Map.{keys_of, lookup, remove_entry}
use Rattle.std.specs.Cmp.{IsEquivalence, and_equiv, on_equiv, nat_eq_equiv}
use Rattle.std.specs.Cmp.Lexicographic.{nat_list_eq_equiv}
use Rattle.std.specs.Prelude.{None, Some}
use Rattle.std.proofs.lemmas.Map.{NonePasses, none_passes_from_lookup, lookup-remove_entry}
use Rattle.indexmap.specs.IndexMap.{insert_entry}
use Rattle.ax_address.specs.Callsign.{Callsign, same_call}
use Rattle.ax_address.proofs.SameCalls.{same_call-true, call_refl}
use Rattle.station_ports.specs.Lasts.{last}
use Rattle.station_ports.specs.Known.{port_of, remembered}

same_equivalence : IsEquivalence same_call
same_equivalence = and_equiv (on_equiv (λ c. c.letters) nat_list_eq_equiv) (on_equiv (λ c. c.ssid) nat_eq_equiv)

one_call : (call x y : Callsign) → same_call call x ≡ true → same_call call y ≡ same_call x y
one_call call x y h = ap (λ c. same_call c y) (same_call-true call x h)

-- a call that was taken out isn't there
taken_out : (call : Callsign) (known : List (Callsign × ℕ)) → IsDistinct same_call (keys_of known) → NonePasses (same_call call) (remove_entry (same_call call) known)
taken_out call known h =
    none_passes_from_lookup (same_call call) (remove_entry (same_call call) known)
    (lookup-remove_entry same_equivalence (same_call call) (one_call call) call known h
    ∙ ap (λ t. if t then None else lookup (same_call call) known) (call_refl call))

none_behind : (test : Callsign → Bool) (n : ℕ) (known : List (Callsign × ℕ)) → NonePasses test known → NonePasses test (drop n known)
none_behind test zero known h = h
none_behind test (suc n) [] h = h
none_behind test (suc n) (e ∷ known) h = none_behind test n known h.1

-- and goes last
goes_last : (call : Callsign) (port : ℕ) (known : List (Callsign × ℕ)) → NonePasses (same_call call) known → insert_entry same_call known call port ≡ known ++ (call, port) ∷ []
goes_last call port [] h = refl
goes_last call port (e ∷ known) h = rw (h.0) (ap (λ more. e ∷ more) (goes_last call port known h.1))

out_of_last : (call : Callsign) (known : List (Callsign × ℕ)) → IsDistinct same_call (keys_of known) →
    NonePasses (same_call call) (last 255 (remove_entry (same_call call) known))
out_of_last call known once =
    let rest = remove_entry (same_call call) known in
    none_behind (same_call call) (length rest - 255) rest (taken_out call known once)

-- taken out, made room for, and inserted: the call is last, behind the last 255 others
pub moved_last : (call : Callsign) (port : ℕ) (known out roomy new : List (Callsign × ℕ)) → IsDistinct same_call (keys_of known) →
    out ≡ remove_entry (same_call call) known → roomy ≡ last 255 out → new ≡ insert_entry same_call roomy call port → new ≡ remembered call port known
moved_last call port known out roomy new once taken room put =
    put ∙ (ap (λ es. insert_entry same_call es call port) (room ∙ ap (last 255) taken)
    ∙ goes_last call port (last 255 (remove_entry (same_call call) known)) (out_of_last call known once))

-- where it is found
found_last : (call : Callsign) (port : ℕ) (known : List (Callsign × ℕ)) → NonePasses (same_call call) known →
    lookup (same_call call) (known ++ (call, port) ∷ []) ≡ Some port
found_last call port [] h = rw (call_refl call) refl
found_last call port (e ∷ known) h = rw (h.0) (found_last call port known h.1)

pub remembered_found : (call : Callsign) (port : ℕ) (known : List (Callsign × ℕ)) → IsDistinct same_call (keys_of known) →
    port_of call (remembered call port known) ≡ Some port
remembered_found call port known once = found_last call port (last 255 (remove_entry (same_call call) known)) (out_of_last call known once)
