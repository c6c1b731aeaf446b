-- The quality of the path to a neighbour, as the code holds it.
use Rattle.std.proofs.Common.{◌≡◌, ◌≤◌, ◌<◌, ◌&&◌, ◌∙◌, ℕ, suc, List, [], ◌∷◌, length, is_some, nat_le, Some, if◌then◌else◌, ap, arith, refl, subst, sym}
use Rattle.std.proofs.lemmas.Bool.Decides.{nat_tests}
use Rattle.std.specs.Map.{lookup}
use Rattle.std.specs.Prelude.{Bool, true, false, Result, Ok, Err, OnOk, OnErr}
use Rattle.indexmap.specs.IndexMap.{insert_entry}
use Rattle.ax_address.specs.Callsign.{Callsign, same_call}
use Rattle.node_core.specs.declared.quality_refusal.QualityRefusal.{QualityRefusal}
use Rattle.node_core.specs.declared.quality_refusal.QualityRefusal.TheVariants as qualities
use Rattle.node_core.specs.declared.station.Station.{Station}
use Rattle.node_core.specs.Going.{StationGoes}
use Rattle.node_core.specs.Qualities.{QualityNotNoMemory, is_full, with_quality}
use Rattle.node_core.specs.Sound.{IsSound}
use Rattle.node_core.specs.Standing.{Holds, IsDrained, Kept, NodeGoes, view_of}
use Rattle.node_model.specs.States.{State}
use Rattle.node_core.proofs.Nodes.{Leads, sound_fetched}

inserted_most : (neighbour : Callsign) (es : List (Callsign × ℕ)) (quality : ℕ) → length (insert_entry same_call es neighbour quality) ≤ suc (length es)
inserted_most neighbour [] quality = omega arith
inserted_most neighbour (e ∷ es) quality = by (same_call neighbour e.0) (inserted_most neighbour es quality)
  where
    by : (b : Bool) → length (insert_entry same_call es neighbour quality) ≤ suc (length es)
        → length (if b then (e.0, quality) ∷ es else e ∷ insert_entry same_call es neighbour quality) ≤ suc (suc (length es))
    by true rest = omega arith
    by false rest = omega (arith, rest)

inserted_same : (neighbour : Callsign) (es : List (Callsign × ℕ)) (quality : ℕ) → is_some (lookup (same_call neighbour) es) ≡ true → length (insert_entry same_call es neighbour quality) ≡ length es
inserted_same neighbour [] quality there = absurd (cc there)
inserted_same neighbour (e ∷ es) quality there = by (same_call neighbour e.0) there (inserted_same neighbour es quality)
  where
    by : (b : Bool) → is_some (if b then Some e.1 else lookup (same_call neighbour) es) ≡ true
        → (is_some (lookup (same_call neighbour) es) ≡ true → length (insert_entry same_call es neighbour quality) ≡ length es)
        → length (if b then (e.0, quality) ∷ es else e ∷ insert_entry same_call es neighbour quality) ≡ suc (length es)
    by true there rest = refl
    by false there rest = ap suc (rest there)

-- there are no more than 16 then
pub inserted_few : (neighbour : Callsign) (es : List (Callsign × ℕ)) (quality : ℕ) → is_full neighbour es ≡ false → length es ≤ 16 → length (insert_entry same_call es neighbour quality) ≤ 16
inserted_few neighbour es quality room few = by (is_some (lookup (same_call neighbour) es)) refl
  where
    short : (b : Bool) → (b && true) ≡ false → b ≡ false
    short false e = refl
    short true e = absurd (cc e)

    by : (b : Bool) → is_some (lookup (same_call neighbour) es) ≡ b → length (insert_entry same_call es neighbour quality) ≤ 16
    by true there = let same = inserted_same neighbour es quality there in omega (arith, same, few)
    by false none =
        let test : nat_le 16 (length es) ≡ false = short (nat_le 16 (length es)) (rw none at room) in
        let less : length es < 16 = grind (arith, nat_tests, test) in
        omega (arith, less, inserted_most neighbour es quality)

pub known : (test : Result (Unit {0}) QualityRefusal → Bool) → test (Err qualities.NoMemory) ≡ true → (r : Result (Unit {0}) QualityRefusal) → false ≡ test r → QualityNotNoMemory r
known test e (Ok _) f = tt
known test e (Err qualities.NoMemory) f = absurd (cc (f ∙ e))
known test e (Err qualities.Full) f = tt

pub sound_quality : (r : Result (Unit {0}) QualityRefusal) (neighbour : Callsign) (quality : ℕ) (k : Kept) (s : Station) → QualityNotNoMemory r → OnOk r (StationGoes (with_quality neighbour quality) k.station s)
    → OnErr r (QualityNotNoMemory r → s ≡ k.station) → (IsDrained k.station → IsDrained s) → Leads (λ n. record n { station = with_quality neighbour quality n.station }) → IsSound k → IsSound (view_of k.deframer s k.spent)
sound_quality (Ok _) neighbour quality k s a goes err drained leads sound = sound_fetched (with_quality neighbour quality) (λ n told. told) (λ n. refl) leads k s goes drained sound
sound_quality (Err e) neighbour quality k s a goes err drained leads sound =
    sound_fetched (λ (n : State). n) (λ n told. told) (λ n. refl) (λ n r. r) k s (λ n h. subst (λ (x : Station). Holds x n) (sym (err a)) h) drained sound

pub quality_goes : (test : Result (Unit {0}) QualityRefusal → Bool) → ((u : Unit {0}) → test (Ok u) ≡ false) → (r : Result (Unit {0}) QualityRefusal) (neighbour : Callsign) (quality : ℕ) (k : Kept) (s : Station) (spent : Bool)
    → spent ≡ test r → OnOk r (StationGoes (with_quality neighbour quality) k.station s)
    → OnOk r (NodeGoes (λ n. record n { station = with_quality neighbour quality n.station }) k (view_of k.deframer s spent))
quality_goes test f (Ok u) neighbour quality k s spent e goes = λ n h. record { unspent = e ∙ f u; stream = h.stream; station = goes n.station h.station; told = h.told }
quality_goes test f (Err why) neighbour quality k s spent e goes = tt
