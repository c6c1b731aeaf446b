use Rattle.std.proofs.Common.{length}
use Rattle.ax_link.specs.Standing.{IsDrained}
use Rattle.link_table.specs.Frames.{segmented}
use Rattle.link_table.specs.Texts.{payloads}
use Rattle.link_table.specs.Standing.{held_of}
use Rattle.link_table.proofs.Sending.{ToGive}
use Rattle.link_table.proofs.entry.LinkEntry.send_split.Given as goal

abbrev pub invariant-loop-segment : goal.invariant-loop-segment
invariant-loop-segment l =
    IsDrained (held_of l.self.link) × ToGive (payloads segmented l.initial.split) (payloads segmented l.split) l.now.0 l.initial.self l.self l.initial.pending l.pending

abbrev pub decreases-loop-segment : goal.decreases-loop-segment
decreases-loop-segment l = length l.split
