use Rattle.std.proofs.Common.{◌≡◌, ◌≤◌, ◌+◌, ◌-◌}
use Rattle.std.specs.Prelude.{◌^◌, min}
use Rattle.std.specs.VecDeque.Iter.{deque_iter_rest}
use Rattle.station_sessions.specs.Sessions.{typed_size}
use Rattle.station_sessions.proofs.session.Session.typed_size.Given as goal

abbrev pub invariant-loop-text : goal.invariant-loop-text
invariant-loop-text l = record {
  fits : l.size ≤ 2 ^ 64 - 1;
  counts : min (l.size + typed_size (deque_iter_rest l.text-iterator)) (2 ^ 64 - 1) ≡ min (typed_size l.self.typed) (2 ^ 64 - 1);
}
