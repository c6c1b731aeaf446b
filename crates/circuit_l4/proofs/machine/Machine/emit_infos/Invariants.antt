use Rattle.std.proofs.Common.{◌≡◌, ◌-◌}
use Rattle.circuit_l4.specs.Moves.{emit_infos}
use Rattle.circuit_l4.specs.Calls.{Adds, Does}
use Rattle.circuit_l4.specs.Standing.{view_of}
use Rattle.circuit_l4.proofs.machine.Machine.emit_infos.Given as goal

-- so far, the fragments below a number have gone out
abbrev pub invariant-loop-number : goal.invariant-loop-number
invariant-loop-number l =
    record {
      does : Does (emit_infos l.from (l.number - l.from)) l.fn.self l.self;
      adds : Adds (l.number - l.from) l.fn.self l.self;
      rest : view_of l.self ≡ record (view_of l.fn.self) { outs = (view_of l.self).outs };
    }
