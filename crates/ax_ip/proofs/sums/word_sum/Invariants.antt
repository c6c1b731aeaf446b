use Rattle.std.proofs.Common.{◌≡◌, ◌≤◌, ◌+◌, ◌*◌, length}
use Rattle.ax_ip.specs.Packets as sums
use Rattle.ax_ip.proofs.sums.word_sum.Given as goal

abbrev pub invariant-loop-rest : goal.invariant-loop-rest
invariant-loop-rest l = record {
  told : l.sum + sums.word_sum l.rest ≡ sums.word_sum l.octets;
  bound : l.sum + 65535 * length l.rest ≤ 65535 * length l.octets;
}

abbrev pub decreases-loop-rest : goal.decreases-loop-rest
decreases-loop-rest l = length l.rest
