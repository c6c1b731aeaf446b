use Rattle.std.proofs.Common.{◌-◌}
use Rattle.ax_link.specs.Standing.{IsDrained}
use Rattle.link_table.specs.Standing.{held_of}
use Rattle.link_table.proofs.Lifting.{Left}
use Rattle.link_table.proofs.entry.LinkEntry.settle.Given as goal

abbrev pub invariant-loop-turn : goal.invariant-loop-turn
invariant-loop-turn l = record { drained : IsDrained (held_of l.self.link); left : Left (192 - l.turn) l.now.0 l.fn.self l.self l.fn.pending l.pending }
