use Rattle.std.proofs.Common.{◌≡◌, ◌≤◌, filter, take, length}
use Rattle.node_model.specs.Asking as views
use Rattle.node_core.proofs.sessions.views.direct_routes.Given as goal

-- the first 64 direct routes of the front
abbrev pub invariant-loop-route : goal.invariant-loop-route
invariant-loop-route l = (l.direct.items ≡ take 64 (filter views.is_direct (take l.route-index l.routes))) × (length l.direct.items ≤ 64)
