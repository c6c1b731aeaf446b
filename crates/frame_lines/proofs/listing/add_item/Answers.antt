use Rattle.frame_lines.specs.Listing.{command_line}
use Rattle.std.proofs.Common.{length}
use Rattle.kiss_framing.specs.Stream.{Frame}
use Rattle.frame_lines.proofs.ListingLemmas.{lists-one, data_line, other_line}
use Rattle.frame_lines.proofs.listing.add_item.Goals as goal

pub returns-in_ok-add_data-in-Frame : goal.returns-in_ok-add_data-in-Frame
returns-in_ok-add_data-in-Frame g c =
    let told = c.in_ok-add_data-in-Frame.ensures in
    rw c.in-Frame.is
    (told.0, lists-one _ (Frame c.in-Frame.port c.in-Frame.command c.in-Frame.payload.now) told.0 (data_line _ c.in-Frame.port c.in-Frame.command c.in-Frame.payload.now told.0 c.if-command-eq0.true told.1), told.2)

pub returns-in_ok-add_command-in-Frame : goal.returns-in_ok-add_command-in-Frame
returns-in_ok-add_command-in-Frame g c =
    let line = command_line c.in-Frame.port c.in-Frame.command (length c.in-Frame.payload.now) in
    rw c.in-Frame.is
    (line, lists-one _ (Frame c.in-Frame.port c.in-Frame.command c.in-Frame.payload.now) line (other_line _ c.in-Frame.port c.in-Frame.command c.in-Frame.payload.now c.if-command-eq0.false), c.in_ok-add_command-in-Frame.ensures)
