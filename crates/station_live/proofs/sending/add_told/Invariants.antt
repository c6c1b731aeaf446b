use Rattle.std.proofs.Common.{◌≡◌, ◌++◌, length}
use Rattle.station_live.specs.Lives.{told_frames}
use Rattle.station_live.proofs.sending.add_told.Given as goal

-- the frames of what is left come behind the text so far
abbrev pub invariant-loop-rest : goal.invariant-loop-rest
invariant-loop-rest l = l.text ++ told_frames l.console l.rest ≡ l.fn.text ++ told_frames l.console l.told

abbrev pub decreases-loop-rest : goal.decreases-loop-rest
decreases-loop-rest l = length l.rest
