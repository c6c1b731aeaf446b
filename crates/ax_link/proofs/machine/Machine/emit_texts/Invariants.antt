use Rattle.std.proofs.Common.{◌≡◌, ◌+◌, ◌-◌, ◌≤◌, List, ◌++◌, length, map}
use Rattle.radio_base.specs.declared.payload.Payload.{Payload}
use Rattle.ax_link.specs.Moves.{frames_of}
use Rattle.ax_link.specs.Standing.{frame_of}
use Rattle.ax_link.specs.Calls.{view_of}
use Rattle.ax_link.proofs.machine.Machine.emit_texts.Given as goal

-- with those that are still to come, all have gone out
abbrev pub invariant-loop-number : goal.invariant-loop-number
invariant-loop-number g l =
    record {
      same : view_of l.self ≡ record (view_of l.fn.self) { outs = l.self.outs.items };
      count : length l.self.outs.items ≤ length l.fn.self.outs.items + (l.number - l.from);
      frames : (before : List Payload) → length before ≡ l.fn.self.acked →
          map (frame_of g.M.Modulus.SIZE) l.self.outs.items
          ++ frames_of g.M.Modulus.SIZE l.fn.self.got (before ++ l.fn.self.queue.items) l.number (l.from + l.many - l.number)
          ≡ map (frame_of g.M.Modulus.SIZE) l.fn.self.outs.items
          ++ frames_of g.M.Modulus.SIZE l.fn.self.got (before ++ l.fn.self.queue.items) l.from l.many;
    }
