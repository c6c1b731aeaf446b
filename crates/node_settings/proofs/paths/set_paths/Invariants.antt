use Rattle.std.proofs.Common.{◌≡◌, drop, filter}
use Rattle.node_core.specs.Standing.{NodeStands}
use Rattle.node_model.specs.States.{NodeState}
use Rattle.node_settings.specs.Settings.{is_via_of, with_vias}
use Rattle.node_settings.proofs.paths.set_paths.Given as goal

abbrev pub invariant-loop-via : goal.invariant-loop-via
invariant-loop-via l = (n : NodeState) → NodeStands l.fn.node n
    → (m : NodeState) × NodeStands l.node m
    × (with_vias (filter (is_via_of l.number) (drop l.via-index l.vias)) m ≡ with_vias (filter (is_via_of l.number) l.vias) n)
