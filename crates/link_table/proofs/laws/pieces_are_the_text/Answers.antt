use Rattle.link_table.proofs.Sending.{pieces_are_the_text}
use Rattle.link_table.proofs.laws.pieces_are_the_text.Goals as goal

pub returns : goal.returns
returns c = pieces_are_the_text
