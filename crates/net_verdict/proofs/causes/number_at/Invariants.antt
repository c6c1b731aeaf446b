use Rattle.std.proofs.Common.{◌≡◌, ◌+◌, List, drop, map}
use Rattle.std.specs.Prelude.{slice_index}
use Rattle.net_verdict.specs.Causes.{number_at, telling}
use Rattle.net_model.specs.Events.{numbered_of}
use Rattle.net_model.specs.Standing.{AreDeclared}
use Rattle.net_model.specs.Starting.{Placed}
use Rattle.net_verdict.proofs.causes.number_at.Given as goal

abbrev pub invariant-loop-at : goal.invariant-loop-at
invariant-loop-at l =
    (nodes : List Placed) → AreDeclared l.members nodes
    → slice_index (telling nodes (l.at + 1) (map numbered_of (drop l.at l.events))) l.left ≡ number_at nodes (map numbered_of l.events) l.fn.place
