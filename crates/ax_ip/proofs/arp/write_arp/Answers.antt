use Rattle.std.proofs.Common.{◌∙◌, ap}
use Rattle.ax_ip.specs.Arps.{arp_at}
use Rattle.ax_ip.proofs.arp.write_arp.Goals as goal

pub returns-clause-read_back : goal.returns-clause-read_back
returns-clause-read_back c = λ h. ap arp_at c.octets_of.ensures.exact ∙ c.arp_spelling.ensures.read_back c.args.arp.now (c.octets_of.ensures.arp h)
