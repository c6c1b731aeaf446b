use Rattle.ax_ip.proofs.Hops.{sent_on}
use Rattle.ax_ip.proofs.Aged.{onward_packet, onward_same}
use Rattle.ax_ip.proofs.laws.forwarding.Goals as goal

pub returns-clause-sent : goal.returns-clause-sent
returns-clause-sent c = sent_on

pub returns-clause-packet : goal.returns-clause-packet
returns-clause-packet c = onward_packet

pub returns-clause-same : goal.returns-clause-same
returns-clause-same c = onward_same
