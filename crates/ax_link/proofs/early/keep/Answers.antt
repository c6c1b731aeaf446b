use Rattle.std.proofs.Common.{ap, not, ◌∙◌}
use Rattle.circular_buffer.specs.Buffer.{buffer}
use Rattle.ax_link.specs.Kinds.{payload}
use Rattle.ax_link.proofs.EarlyPlaces.{kept_already}
use Rattle.ax_link.proofs.early.keep.Goals as goal

pub returns-else-is_none : goal.returns-else-is_none
returns-else-is_none c =
    ap (λ e. buffer e c.args.early.now.capacity)
    (kept_already c.args.early.now.items c.args.place (payload c.args.pid c.args.info.now) c.in-Some.kept.now c.in-Some.ensures.value (c.is_none.ensures ∙ ap not c.if-is_none.false))
