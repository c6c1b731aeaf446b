use Rattle.std.proofs.Common.{◌≡◌}
use Rattle.station.specs.Fetching.{all_outs, without_outs}
use Rattle.station.specs.Standing.{StationStand, outs_left}
use Rattle.station.specs.States.{StationState}
use Rattle.station_trial.specs.Outlets.{OutletState, put_all}
use Rattle.station_trial.specs.Standing.{OutletStands}
use Rattle.station_trial.proofs.outlet.Outlet.fetch_outs.Given as goal

-- what is left of what the station has put out goes behind what has gone
abbrev pub invariant-loop-out : goal.invariant-loop-out
invariant-loop-out l = record {
  station : (s : StationState) → StationStand l.fn.station s
      → (t : StationState) × StationStand l.station t × (without_outs t ≡ without_outs s);
  outlet : (s : StationState) (o : OutletState) → StationStand l.fn.station s → OutletStands l.fn.self o
      → (t : StationState) × (p : OutletState) × StationStand l.station t × OutletStands l.self p
      × (put_all l.at (all_outs t) p ≡ put_all l.at (all_outs s) o);
}

abbrev pub decreases-loop-out : goal.decreases-loop-out
decreases-loop-out l = outs_left l.station
