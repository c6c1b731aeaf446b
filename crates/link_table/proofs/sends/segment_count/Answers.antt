use Rattle.std.proofs.Common.{sym, ◌∙◌}
use Rattle.ax_segment.specs.Segments.{segments_of}
use Rattle.link_table.specs.Frames.{plain_text, segmented}
use Rattle.link_table.proofs.Sending.{length_payloads, length_segments}
use Rattle.link_table.proofs.sends.segment_count.Goals as goal

pub returns : goal.returns
returns c = sym (length_payloads segmented (segments_of plain_text c.args.text.now) ∙ length_segments plain_text c.args.text.now)
