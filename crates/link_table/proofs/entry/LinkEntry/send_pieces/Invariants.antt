use Rattle.std.proofs.Common.{length}
use Rattle.ax_link.specs.Standing.{IsDrained}
use Rattle.link_table.specs.Frames.{plain_text}
use Rattle.link_table.specs.Texts.{cut, payloads}
use Rattle.link_table.specs.Standing.{held_of}
use Rattle.link_table.proofs.Sending.{ToGive}
use Rattle.link_table.proofs.entry.LinkEntry.send_pieces.Given as goal

abbrev pub invariant-loop-rest : goal.invariant-loop-rest
invariant-loop-rest l =
    IsDrained (held_of l.self.link) × ToGive (payloads plain_text (cut l.text)) (payloads plain_text (cut l.rest)) l.now.0 l.initial.self l.self l.initial.pending l.pending

abbrev pub decreases-loop-rest : goal.decreases-loop-rest
decreases-loop-rest l = length l.rest
