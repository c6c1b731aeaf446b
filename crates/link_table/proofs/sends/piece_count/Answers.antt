use Rattle.std.proofs.Common.{sym, ◌∙◌}
use Rattle.link_table.specs.Frames.{plain_text}
use Rattle.link_table.specs.Texts.{cut}
use Rattle.link_table.proofs.Sending.{length_cut, length_payloads}
use Rattle.link_table.proofs.sends.piece_count.Goals as goal

pub returns : goal.returns
returns c = sym (length_payloads plain_text (cut c.args.text.now) ∙ length_cut c.args.text.now)
