-- What the code of a trial keeps, and for which states it stands.
use Rattle.std.specs.Prelude.{ℕ, ◌≡◌, List, [], ◌∷◌}
use Rattle.station.specs.Standing.{StationStand}
use Rattle.station_screen.specs.Standing.{ScreenStands}
use Rattle.station_trial.specs.declared.outlet.Outlet.{Outlet}
use Rattle.station_trial.specs.declared.tried.Tried.{Tried}
use Rattle.station_trial.specs.Outlets.{OutletState}
use Rattle.station_trial.specs.Stations.{TriedState}
use Rattle.station_trial.specs.Trials.{TrialState}

pub record OutletStands (k : Outlet) (o : OutletState) : Type 0 where
  pub shown : ScreenStands k.screen o.shown
  pub flights : k.air.flights.items ≡ o.flights
  pub lose : k.air.lose ≡ o.lose
  pub shows_frames : k.shows_frames ≡ o.shows_frames

abbrev pub OutletGoes : (OutletState → OutletState) → Outlet → Outlet → Type 0
OutletGoes step old new = (o : OutletState) → OutletStands old o → OutletStands new (step o)

pub record TriedStands (k : Tried) (t : TriedState) : Type 0 where
  pub file : k.file ≡ t.file
  pub station : StationStand k.station t.station
  pub restarts : k.restarts ≡ t.restarts
  pub call : k.call ≡ t.call

abbrev pub TriedGoes : (TriedState → TriedState) → Tried → Tried → Type 0
TriedGoes step old new = (t : TriedState) → TriedStands old t → TriedStands new (step t)

-- each stands for the one at its place, and there are no others
abbrev pub AllStand : List Tried → List TriedState → Type 0
AllStand [] [] = Unit {0}
AllStand (k ∷ ks) (t ∷ ts) = TriedStands k t × AllStand ks ts
AllStand [] (t ∷ ts) = ⊥
AllStand (k ∷ ks) [] = ⊥

-- what contracts see of a trial
pub record Kept : Type 0 where
  pub tried : List Tried
  pub outlet : Outlet
  pub time : ℕ
  pub at : ℕ

abbrev pub view_of : List Tried → Outlet → ℕ → ℕ → Kept
view_of tried outlet time at = record { tried = tried; outlet = outlet; time = time; at = at }

pub record TrialStands (k : Kept) (s : TrialState) : Type 0 where
  pub tried : AllStand k.tried s.tried
  pub outlet : OutletStands k.outlet s.outlet
  pub time : k.time ≡ s.now
  pub at : k.at ≡ s.at

abbrev pub TrialGoes : (TrialState → TrialState) → Kept → Kept → Type 0
TrialGoes step old new = (s : TrialState) → TrialStands old s → TrialStands new (step s)
