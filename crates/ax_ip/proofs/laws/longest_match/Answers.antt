use Rattle.ax_ip.proofs.LongestMatch.{longest_taken}
use Rattle.ax_ip.proofs.laws.longest_match.Goals as goal

pub returns : goal.returns
returns c = longest_taken
