use Rattle.std.proofs.Common.{◌≡◌, ◌≤◌, ◌+◌, ◌-◌}
use Rattle.std.specs.Prelude.{◌^◌, min}
use Rattle.std.specs.VecDeque.Iter.{deque_iter_rest}
use Rattle.station_places.specs.Consoles.{octets_for}
use Rattle.station_places.proofs.console_outs.ConsoleOuts.waiting.Given as goal

abbrev pub invariant-loop-out : goal.invariant-loop-out
invariant-loop-out l = record {
  fits : l.bytes ≤ 2 ^ 64 - 1;
  counts : min (l.bytes + octets_for l.console (deque_iter_rest l.out-iterator)) (2 ^ 64 - 1) ≡ min (octets_for l.console l.self) (2 ^ 64 - 1);
}
