use Rattle.std.proofs.Common.{refl}
use Rattle.circuit_l4.proofs.Rings.{part_is}
use Rattle.circuit_l4.proofs.messages.part.Goals as goal

pub returns : goal.returns
returns c =
    part_is _ _ _ _ _ c.args.start c.args.len _ _ _ _ _ c.as_slices.ensures refl c.min-from.ensures c.min-to.ensures refl refl refl refl
