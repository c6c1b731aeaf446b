use Rattle.std.proofs.Common.{◌≡◌, ◌-◌}
use Rattle.ax_link.specs.Standing.{Adds}
use Rattle.ax_link.specs.Calls.{Does, ask_for_each, view_of}
use Rattle.ax_link.proofs.machine.Machine.ask_for_each.Given as goal

abbrev pub invariant-loop-number : goal.invariant-loop-number
invariant-loop-number g l =
    record {
      does : Does g.M.Modulus.SIZE (ask_for_each l.from (l.number - l.from)) l.fn.self l.self;
      adds : Adds (l.number - l.from) (view_of l.fn.self) (view_of l.self);
      got : l.self.got ≡ l.fn.self.got;
    }
