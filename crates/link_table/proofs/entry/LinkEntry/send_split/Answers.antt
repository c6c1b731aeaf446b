use Rattle.link_table.specs.Frames.{segmented}
use Rattle.link_table.specs.Texts.{payloads}
use Rattle.link_table.proofs.Sending.{given_first, segment_first}
use Rattle.link_table.proofs.entry.LinkEntry.send_split.Goals as goal

pub loop-segment-preserved : goal.loop-segment-preserved
loop-segment-preserved c =
    let told = rw c.in-Some.is at c.next.ensures in (
      c.in_ok-give.ensures.drained,
      given_first (payloads segmented c.args.split.now) (payloads segmented c.loop-segment.split) (payloads segmented c.next.new.self) c.in-Some.segment c.args.now.0
          c.args.self.now c.loop-segment.self c.give.new.self c.args.pending.now c.loop-segment.pending c.give.new.pending
          (segment_first c.in-Some.segment c.loop-segment.split c.next.new.self told.0 told.1) c.loop-segment.invariant.1 c.in_ok-give.ensures.goes,
    )
