use Rattle.std.proofs.Common.{◌≡◌, ◌≤◌, length}
use Rattle.std.specs.Str.Lines.{lines}
use Rattle.network_file.specs.Networks as networks
use Rattle.network_file.proofs.network.read_network.Given as goal

abbrev pub invariant-loop-rest : goal.invariant-loop-rest
invariant-loop-rest l = record {
  told : networks.after_lines l.number l.network (lines l.rest) ≡ networks.network_of l.bytes;
  few : l.number ≤ 20000;
}

abbrev pub decreases-loop-rest : goal.decreases-loop-rest
decreases-loop-rest l = length l.rest
