-- What stands for a state stands for the same state said in another way.
use Rattle.std.proofs.Common.{◌≡◌, ℕ, List, subst}
use Rattle.station.specs.Standing as stations
use Rattle.station.specs.Standing.{StationStand}
use Rattle.station.specs.States.{StationState}
use Rattle.station_trial.specs.declared.outlet.Outlet.{Outlet}
use Rattle.station_trial.specs.declared.tried.Tried.{Tried}
use Rattle.station_trial.specs.Outlets.{OutletState, landed}
use Rattle.station_trial.specs.Standing.{Kept, OutletGoes, OutletStands, TrialStands, view_of}
use Rattle.station_trial.specs.Trials.{TrialState, at_outlet}

pub station_as : (k : stations.Kept) (s t : StationState) → s ≡ t → StationStand k s → StationStand k t
station_as k s t is stands = subst (λ x. StationStand k x) is stands

pub outlet_as : (k : Outlet) (o p : OutletState) → o ≡ p → OutletStands k o → OutletStands k p
outlet_as k o p is stands = subst (λ x. OutletStands k x) is stands

pub trial_as : (k : Kept) (s t : TrialState) → s ≡ t → TrialStands k s → TrialStands k t
trial_as k s t is stands = subst (λ x. TrialStands k x) is stands

-- a frame leaves the air
pub lands : (k : Kept) (o : Outlet) (s : TrialState) → OutletGoes landed k.outlet o → TrialStands k s → TrialStands (record k { outlet = o }) (at_outlet landed s)
lands k o s goes stands = record { tried = stands.tried; outlet = goes s.outlet stands.outlet; time = stands.time; at = stands.at }

-- the stations are said in another way
pub tried_as : {ks js : List Tried} → ks ≡ js → {o : Outlet} {time at : ℕ} {s : TrialState} → TrialStands (view_of ks o time at) s → TrialStands (view_of js o time at) s
tried_as is {o} {time} {at} {s} stands = subst (λ ks. TrialStands (view_of ks o time at) s) is stands
