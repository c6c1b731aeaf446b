use Rattle.ax_ip.proofs.Arps.{arp_read, arp_written}
use Rattle.ax_ip.proofs.laws.arp_spelling.Goals as goal

pub returns-clause-read : goal.returns-clause-read
returns-clause-read c = arp_read c.net_call_spelling.ensures.read

pub returns-clause-written : goal.returns-clause-written
returns-clause-written c = arp_written c.net_call_spelling.ensures.written

pub returns-clause-read_back : goal.returns-clause-read_back
returns-clause-read_back c = λ a h. arp_read c.net_call_spelling.ensures.read a _ (arp_written c.net_call_spelling.ensures.written a h)
