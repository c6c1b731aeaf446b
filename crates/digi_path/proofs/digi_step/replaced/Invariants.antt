use Rattle.std.proofs.Common.{◌≡◌, take}
use Rattle.digi_path.proofs.digi_step.replaced.Given as goal

abbrev pub invariant-loop-old : goal.invariant-loop-old
invariant-loop-old l = l.new.items ≡ take l.old-index l.path
