use Rattle.std.proofs.Common.{◌≡◌, map, reverse}
use Rattle.ax_ip.specs.Routes as spec
use Rattle.ax_ip.proofs.routes.longest.Given as goal

abbrev pub invariant-loop-route : goal.invariant-loop-route
invariant-loop-route l = l.best ≡ spec.longest l.dest (reverse (map (λ r. r.now) l.yielded))
