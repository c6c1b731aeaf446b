use Rattle.std.proofs.Common.{◌≡◌, ◌++◌, drop, map, suc}
use Rattle.net_model.specs.Events.{numbered_of}
use Rattle.trace_lines.specs.Events.{events_from}
use Rattle.trace_lines.specs.Marks.{mark_at}
use Rattle.trace_lines.proofs.events.write_events.Given as goal

abbrev pub invariant-loop-place : goal.invariant-loop-place
invariant-loop-place l =
    l.out ++ events_from (mark_at l.marks) l.frames (suc l.place) (map numbered_of (drop l.place l.told)) ≡ l.fn.out ++ events_from (mark_at l.marks) l.frames 1 (map numbered_of l.told)
