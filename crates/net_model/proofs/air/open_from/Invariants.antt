use Rattle.std.proofs.Common.{take}
use Rattle.net_model.specs.World.{AllSettled}
use Rattle.net_model.proofs.air.open_from.Given as goal

abbrev pub invariant-loop-at : goal.invariant-loop-at
invariant-loop-at l = AllSettled (take l.at l.frames)
