use Rattle.std.proofs.Common.{sym}
use Rattle.ax_frame.specs.Frames.{view}
use Rattle.frame_lines.specs.Listing.{bad_line, frame_line}
use Rattle.frame_lines.proofs.ListingLemmas.{shows_fault, shows_frame}
use Rattle.frame_lines.proofs.listing.add_data.Goals as goal

pub returns-in_ok-add_frame-in-Ok : goal.returns-in_ok-add_frame-in-Ok
returns-in_ok-add_frame-in-Ok g c =
    (frame_line c.args.port (view c.in-Ok.frame), shows_frame _ c.args.port c.args.payload.now (view c.in-Ok.frame) (rw c.in-Ok.is at c.read_frame.ensures.found), c.in_ok-add_frame-in-Ok.ensures)

pub returns-in_ok-add_bad-in-Err : goal.returns-in_ok-add_bad-in-Err
returns-in_ok-add_bad-in-Err g c =
    (bad_line c.args.port c.in-Err.refusal, shows_fault _ c.args.port c.args.payload.now c.in-Err.refusal (sym (rw c.in-Err.is at c.read_frame.ensures.refused)), c.in_ok-add_bad-in-Err.ensures)
