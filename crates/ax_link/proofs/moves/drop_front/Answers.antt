use Rattle.std.proofs.Common.{ap}
use Rattle.std.proofs.lemmas.List.{drop-drop}
use Rattle.circular_buffer.specs.Buffer.{buffer}
use Rattle.ax_link.proofs.moves.drop_front.Goals as goal

pub loop-done-preserved : goal.loop-done-preserved
loop-done-preserved c =
    rw (c.pop_front.ensures.items, c.loop-done.invariant)
    (ap (λ items. buffer items c.args.queue.now.capacity) (drop-drop 1 c.loop-done.done c.args.queue.now.items))
