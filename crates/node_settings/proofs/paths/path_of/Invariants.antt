use Rattle.std.proofs.Common.{◌≡◌, ◌≤◌, map, take, length}
use Rattle.arrayvec.specs.ArrayVec.{array_vec_len}
use Rattle.node_settings.specs.Settings.{repeater}
use Rattle.node_settings.proofs.paths.path_of.Given as goal

abbrev pub invariant-loop-call : goal.invariant-loop-call
invariant-loop-call l =
    (array_vec_len l.path ≡ l.call-index) × (l.path.items ≡ map repeater (take l.call-index l.call-items)) × (l.call-items ≡ l.via.repeaters.items) × (length l.call-items ≤ 2)
