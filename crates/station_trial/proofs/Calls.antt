-- A call with another SSID.
use Rattle.std.proofs.Common.{◌≡◌, ◌∙◌, ◌*◌, ◌-◌, ◌≤◌, ◌++◌, ◌∷◌, [], ℕ, List, refl, sym, ap, map, set, length, length-append, replicate, arith}
use Rattle.std.proofs.lemmas.List.{length-map, length-replicate}
use Rattle.ax_address.specs.Callsign.{Callsign, name_in, padded}
use Rattle.ax_address.specs.Octets.{SpellsNetCall}
use Rattle.station_trial.specs.Starting.{with_ssid}

-- the last of these becomes another
pub other_last : (front : List ℕ) (a n : ℕ) → set (front ++ a ∷ []) (length front) n ≡ front ++ n ∷ []
other_last [] a n = refl
other_last (f ∷ fs) a n = ap (λ xs. f ∷ xs) (other_last fs a n)

pub spelled_with : (call : Callsign) (octets : List ℕ) (n : ℕ) → n ≤ 15 → SpellsNetCall call octets → SpellsNetCall (with_ssid call n) (set octets 6 (2 * n))
spelled_with call octets n small spells =
    let front : List ℕ = map (λ b. 2 * b) call.letters in
    let name : List ℕ = name_in call.letters in
    let filled : length (padded name) ≡ 6 = omega (arith, length-append name (replicate (6 - length name) 32), length-replicate {A = ℕ} (6 - length name) 32, spells.is_call.six) in
    let six : length front ≡ 6 = length-map call.letters (λ b. 2 * b) ∙ (ap length spells.is_call.spaces ∙ filled) in
    record {
      is_call = record { some = spells.is_call.some; six = spells.is_call.six; chars = spells.is_call.chars; spaces = spells.is_call.spaces; small = small };
      last = 2 * n;
      spelled = ap (λ os. set os 6 (2 * n)) spells.spelled ∙ (ap (λ k. set (front ++ spells.last ∷ []) k (2 * n)) (sym six) ∙ other_last front spells.last (2 * n));
      ssid = omega (arith, small);
    }
