use Rattle.std.proofs.Common.{◌≡◌, refl}
use Rattle.std.specs.Prelude.{None, slice_get}
use Rattle.circuit_table.specs.CircuitSets.{held_ids}
use Rattle.net_world.proofs.Looking.{looks, looks_none}
use Rattle.net_world.proofs.world.World.held_id.Goals as goal

pub returns : goal.returns
returns c = λ w t.
    looks (slice_get w.nodes c.args.at) c.in_ok-node_at.field-0.now c.circuits.result.now (λ hs. c.held.result ≡ slice_get (held_ids hs) c.args.nth) (c.in_ok-node_at.ensures w t)
    c.circuits.ensures.stands c.held.ensures

pub returns-in_err-node_at : goal.returns-in_err-node_at
returns-in_err-node_at c = rw c.from_residual.ensures (λ w t. looks_none (slice_get w.nodes c.args.at) (λ hs. None ≡ slice_get (held_ids hs) c.args.nth) (c.in_err-node_at.ensures w t) refl)
