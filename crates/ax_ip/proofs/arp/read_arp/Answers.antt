use Rattle.std.proofs.Common.{◌∙◌}
use Rattle.ax_ip.proofs.arp.read_arp.Goals as goal

pub returns-clause-only : goal.returns-clause-only
returns-clause-only c = λ a h. c.message_in.ensures.exact ∙ c.arp_spelling.ensures.read a c.args.bytes.now h
