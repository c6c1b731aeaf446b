use Rattle.std.proofs.Common.{◌≡◌, ◌++◌}
use Rattle.station.specs.Fetching.{without_outs}
use Rattle.station.specs.Standing.{StationStand, outs_left}
use Rattle.station.specs.States.{StationState}
use Rattle.station_live.specs.Lives.{outs_text}
use Rattle.station_live.proofs.sending.add_outs.Given as goal

-- what is left of what the station has put out comes behind the text so far
abbrev pub invariant-loop-out : goal.invariant-loop-out
invariant-loop-out l = (s : StationState) → StationStand l.fn.station s
    → (t : StationState) × StationStand l.station t × (without_outs t ≡ without_outs s) × (l.text ++ outs_text t ≡ l.fn.text ++ outs_text s)

abbrev pub decreases-loop-out : goal.decreases-loop-out
decreases-loop-out l = outs_left l.station
