use Rattle.std.proofs.Common.{arith, add-one}
use Rattle.trace_lines.proofs.Joining.{next_event}
use Rattle.trace_lines.proofs.events.write_events.Goals as goal

pub loop-place-preserved : goal.loop-place-preserved
loop-place-preserved c =
    next_event c.args.marks.now c.args.frames.now c.args.told.now c.index-told-place.result c.loop-place.place _ c.loop-place.out c.write_event.new.out _ (add-one c.loop-place.place)
    (omega arith) c.index-told-place.is c.loop-place.invariant c.in_ok-write_event.ensures
