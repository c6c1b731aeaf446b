use Rattle.std.proofs.Common.{◌≡◌, drop, take}
use Rattle.std.specs.List.{AllByRecursion}
use Rattle.net_model.specs.SoundPlans.{IsLine}
use Rattle.net_model.specs.Lines.{do_lines}
use Rattle.net_world.specs.Running.{Stands, course}
use Rattle.net_model.specs.World.{World}
use Rattle.net_world.proofs.world.World.do_all.Given as goal

abbrev pub invariant-loop-numbered : goal.invariant-loop-numbered
invariant-loop-numbered l = record {
  runs : (w : World) → Stands (course l.fn.self) w
      → (v : World) × Stands (course l.self) v × (do_lines l.network (drop l.numbered-index l.instructions) v ≡ do_lines l.network l.instructions w);
  sound : AllByRecursion IsLine (take l.numbered-index l.instructions);
}
