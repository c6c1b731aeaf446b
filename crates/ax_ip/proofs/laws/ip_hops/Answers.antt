use Rattle.ax_ip.proofs.Hops.{hops}
use Rattle.ax_ip.proofs.laws.ip_hops.Goals as goal

pub returns : goal.returns
returns c = hops
