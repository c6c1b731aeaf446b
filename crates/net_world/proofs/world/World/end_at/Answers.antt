use Rattle.std.specs.Prelude.{None, slice_get}
use Rattle.std.specs.Option.{option_copied}
use Rattle.circuit_table.specs.CircuitSets.{LentStands}
use Rattle.circuit_table.specs.Sets.{end_of}
use Rattle.net_world.proofs.Looking.{looks, looks_none}
use Rattle.net_world.proofs.world.World.end_at.Goals as goal

pub returns : goal.returns
returns c = λ w t.
    looks (slice_get w.nodes c.args.at) c.in_ok-node_at.field-0.now c.circuits.result.now (λ hs. LentStands (option_copied c.end.result) (end_of c.args.id hs)) (c.in_ok-node_at.ensures w t)
    c.circuits.ensures.stands c.end.ensures

pub returns-in_err-node_at : goal.returns-in_err-node_at
returns-in_err-node_at c = rw c.from_residual.ensures (λ w t. looks_none (slice_get w.nodes c.args.at) (λ hs. LentStands None (end_of c.args.id hs)) (c.in_err-node_at.ensures w t) tt)
