-- The stations of a trial and those that they stand for, place by place.
use Rattle.std.proofs.Common.{◌≡◌, ◌<◌, ◌≤◌, ◌-◌, ◌∙◌, ℕ, zero, suc, List, [], ◌∷◌, true, false, refl, sym, ap, subst, length, get_or, set, arith}
use Rattle.std.specs.Prelude.{Some, None, nat_lt, slice_get, if◌then◌else◌}
use Rattle.std.proofs.lemmas.Bool.Decides.{nat_tests}
use Rattle.station_trial.specs.declared.tried.Tried.{Tried}
use Rattle.ax_address.specs.Callsign.{Callsign}
use Rattle.station_looks.specs.declared.about.About.{About}
use Rattle.station_start.specs.Starts.{IsAbout}
use Rattle.station_trial.specs.declared.air.Flight.{Flight}
use Rattle.station_trial.specs.declared.trial.Came.TheVariants.{Done}
use Rattle.station_trial.specs.Directing.{RestartsAt, change_at, place_at, port_at, port_in, port_named, set_call, with_call}
use Rattle.station_trial.specs.Standing.{AllStand, Kept, TriedGoes, TriedStands, TrialStands}
use Rattle.station_trial.specs.Starting.{restarted}
use Rattle.station_trial.specs.Stations.{TriedState}
use Rattle.station_trial.specs.Trials.{TrialState, name_at, name_by, name_of}

pub as_many : (ks : List Tried) (ts : List TriedState) → AllStand ks ts → length ks ≡ length ts
as_many [] [] all = refl
as_many (k ∷ ks) (t ∷ ts) all = ap suc (as_many ks ts all.1)
as_many [] (t ∷ ts) all = absurd all
as_many (k ∷ ks) [] all = absurd all

-- a place and what stands there
pub record Placed (ts : List TriedState) (at : ℕ) (k : Tried) : Type 0 where
  pub one : TriedState
  pub there : slice_get ts at ≡ Some one
  pub stands : TriedStands k one

pub placed : (ks : List Tried) (ts : List TriedState) (at : ℕ) (k : Tried) → AllStand ks ts → at < length ks → k ≡ get_or ks at k → Placed ts at k
placed [] ts at k all h is = absurd (omega (arith, h))
placed (j ∷ js) [] at k all h is = absurd all
placed (j ∷ js) (t ∷ ts) zero k all h is = record { one = t; there = refl; stands = subst (λ x. TriedStands x t) (sym is) all.0 }
placed (j ∷ js) (t ∷ ts) (suc at) k all h is =
    let p = placed js ts at k all.1 (omega (arith, h)) is in
    record { one = p.one; there = p.there; stands = p.stands }

pub none_placed : (ks : List Tried) (ts : List TriedState) (at : ℕ) → AllStand ks ts → length ks ≤ at → slice_get ts at ≡ None
none_placed [] [] at all h = refl
none_placed [] (t ∷ ts) at all h = absurd all
none_placed (j ∷ js) [] at all h = absurd all
none_placed (j ∷ js) (t ∷ ts) zero all h = absurd (omega (arith, h))
none_placed (j ∷ js) (t ∷ ts) (suc at) all h = none_placed js ts at all.1 (omega (arith, h))

-- nothing else stands there
pub alone : (ts : List TriedState) (at : ℕ) (k : Tried) (t : TriedState) → Placed ts at k → slice_get ts at ≡ Some t → TriedStands k t
alone ts at k t p there =
    let both : Some p.one ≡ Some t = sym p.there ∙ there in
    let same : p.one ≡ t = cc both in
    subst (λ x. TriedStands k x) same p.stands

-- one of them makes a step
pub one_goes : (ks : List Tried) (ts : List TriedState) (at : ℕ) (old new : Tried) (step : TriedState → TriedState) → AllStand ks ts → at < length ks
    → old ≡ get_or ks at old → ((t : TriedState) → TriedStands old t → TriedStands new (step t)) → AllStand (set ks at new) (change_at at step ts)
one_goes [] ts at old new step all h is goes = absurd (omega (arith, h))
one_goes (j ∷ js) [] at old new step all h is goes = absurd all
one_goes (j ∷ js) (t ∷ ts) zero old new step all h is goes = (goes t (subst (λ x. TriedStands x t) (sym is) all.0), all.1)
one_goes (j ∷ js) (t ∷ ts) (suc at) old new step all h is goes = (all.0, one_goes js ts at old new step all.1 (omega (arith, h)) is goes)

-- there is no such place
pub none_changes : (ts : List TriedState) (at : ℕ) (step : TriedState → TriedState) → length ts ≤ at → change_at at step ts ≡ ts
none_changes [] at step h = refl
none_changes (t ∷ ts) zero step h = absurd (omega (arith, h))
none_changes (t ∷ ts) (suc at) step h = ap (λ us. t ∷ us) (none_changes ts at step (omega (arith, h)))

-- ---- the station at whose console is typed

pub at_console : (k : Kept) (s : TrialState) (one : Tried) → k.at < length k.tried → one ≡ get_or k.tried k.at one → TrialStands k s → Placed s.tried s.at one
at_console k s one h is stands = subst (λ n. Placed s.tried n one) stands.at (placed k.tried s.tried k.at one stands.tried h is)

pub none_at_console : (k : Kept) (s : TrialState) → length k.tried ≤ k.at → TrialStands k s → slice_get s.tried s.at ≡ None
none_at_console k s h stands = subst (λ n. slice_get s.tried n ≡ None) stands.at (none_placed k.tried s.tried k.at stands.tried h)

-- ---- stations by number

pub number_there : (k : Kept) (s : TrialState) (number at : ℕ) → at ≡ number - 1 → at < length k.tried → TrialStands k s → Some at ≡ place_at number s
number_there k s number at is h stands =
    let same : length k.tried ≡ length s.tried = as_many k.tried s.tried stands.tried in
    let within : nat_lt (number - 1) (length s.tried) ≡ true = grind (arith, nat_tests, is, h, same) in
    ap Some is ∙ sym (ap (λ b. if b then Some (number - 1) else None) within)

pub number_missing : (k : Kept) (s : TrialState) (number at : ℕ) → at ≡ number - 1 → length k.tried ≤ at → TrialStands k s → None ≡ place_at number s
number_missing k s number at is h stands =
    let same : length k.tried ≡ length s.tried = as_many k.tried s.tried stands.tried in
    let past : nat_lt (number - 1) (length s.tried) ≡ false = grind (arith, nat_tests, is, h, same) in
    sym (ap (λ b. if b then Some (number - 1) else None) past)

-- ---- its call

pub call_set : (k : Kept) (s : TrialState) (one : Tried) (call : Callsign) → k.at < length k.tried → one ≡ get_or k.tried k.at one → TrialStands k s
    → TrialStands (record k { tried = set k.tried k.at (record one { call = Some call }) }) (set_call call s)
call_set k s one call h is stands = record {
  tried = subst (λ n. AllStand (set k.tried k.at (record one { call = Some call })) (change_at n (with_call call) s.tried)) stands.at
      (one_goes k.tried s.tried k.at one (record one { call = Some call }) (with_call call) stands.tried h is
      (λ t st. record { file = st.file; station = st.station; restarts = st.restarts; call = refl }));
  outlet = stands.outlet;
  time = stands.time;
  at = stands.at;
}

pub call_left : (k : Kept) (s : TrialState) (call : Callsign) → length k.tried ≤ k.at → TrialStands k s → TrialStands k (set_call call s)
call_left k s call h stands =
    let same : length k.tried ≡ length s.tried = as_many k.tried s.tried stands.tried in
    let past : length s.tried ≤ s.at = omega (arith, h, same, stands.at) in
    record {
      tried = subst (λ ts. AllStand k.tried ts) (sym (none_changes s.tried s.at (with_call call) past)) stands.tried;
      outlet = stands.outlet;
      time = stands.time;
      at = stands.at;
    }

-- ---- its ports

pub port_there : (word : List ℕ) (s : TrialState) (one : Tried) → Placed s.tried s.at one → port_named word one.file ≡ port_at word s
port_there word s one p = ap (λ f. port_named word f) p.stands.file ∙ sym (ap (λ t. port_in word t) p.there)

-- ---- the names of ports

pub name_nowhere : (ks : List Tried) (ts : List TriedState) (flight : Flight) → AllStand ks ts → length ks ≤ flight.«from» → None ≡ name_of flight ts
name_nowhere ks ts flight all h = sym (ap (λ t. name_by t flight.frame.port) (none_placed ks ts flight.«from» all h))

pub name_there : (ts : List TriedState) (flight : Flight) (k : Tried) → Placed ts flight.«from» k → name_at (slice_get k.file.ports flight.frame.port) ≡ name_of flight ts
name_there ts flight k p =
    ap (λ f. name_at (slice_get f.ports flight.frame.port)) p.stands.file ∙ sym (ap (λ t. name_by t flight.frame.port) p.there)

-- ---- a station starts again

pub restarts_there : (k : Kept) (s : TrialState) (number at : ℕ) (one new : Tried) (who : About) → Some at ≡ place_at number s → at < length k.tried
    → one ≡ get_or k.tried at one → IsAbout one.file who → TriedGoes (restarted who) one new → TrialStands k s
    → (after : TrialState) × RestartsAt (place_at number s) s Done after × TrialStands (record k { tried = set k.tried at new }) after
restarts_there k s number at one new who is h e about goes stands =
    let after : TrialState = record s { tried = change_at at (restarted who) s.tried } in
    let p = placed k.tried s.tried at one stands.tried h e in
    let of_file : (t : TriedState) → slice_get s.tried at ≡ Some t → IsAbout t.file who =
    λ t there. subst (λ f. IsAbout f who) (alone s.tried at one t p there).file about in
    let does : RestartsAt (Some at) s Done after = (who, of_file, refl, refl) in (
      after,
      subst (λ o. RestartsAt o s Done after) is does,
      record {
        tried = one_goes k.tried s.tried at one new (restarted who) stands.tried h e goes;
        outlet = stands.outlet;
        time = stands.time;
        at = stands.at;
      },
    )
