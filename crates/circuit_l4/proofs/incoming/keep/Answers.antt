use Rattle.std.proofs.Common.{ap, not, subst, sym, ◌∙◌}
use Rattle.circuit_l4.specs.Inboxes.{AreSmall}
use Rattle.circular_buffer.specs.Buffer.{buffer}
use Rattle.circuit_l4.proofs.Bounds.{small_set}
use Rattle.circuit_l4.proofs.EarlyPieces.{kept_already, set_same}
use Rattle.circuit_l4.proofs.incoming.keep.Goals as goal

pub returns-then-is_none-clause-small : goal.returns-then-is_none-clause-small
returns-then-is_none-clause-small c a = small_set c.args.early.now.items c.args.place c.copy_of.result c.copy_of.ensures.small a

pub returns-else-is_none-clause-keeps : goal.returns-else-is_none-clause-keeps
returns-else-is_none-clause-keeps c =
    ap (λ e. buffer e c.args.early.now.capacity)
    (kept_already c.args.early.now.items c.args.place c.args.piece.now c.in-Some.kept.now c.in-Some.ensures.value (c.is_none.ensures ∙ ap not c.if-is_none.false))

pub returns-else-is_none-clause-small : goal.returns-else-is_none-clause-small
returns-else-is_none-clause-small c a = subst AreSmall (sym (set_same c.args.early.now.items c.args.place c.in-Some.kept.now (sym c.in-Some.ensures.value))) a
