use Rattle.std.proofs.Common.{◌-◌, length}
use Rattle.ax_link.specs.State.{Effect}
use Rattle.ax_link.specs.Standing.{Adds, KeepsEffect}
use Rattle.ax_link.specs.Calls.{view_of, move_on}
use Rattle.ax_link.proofs.EarlyPlaces.{Goes}
use Rattle.ax_link.proofs.machine.Machine.move_on.Given as goal

abbrev pub invariant-loop-done : goal.invariant-loop-done
invariant-loop-done g l =
    record {
      goes : (part : Effect) → KeepsEffect g.M.Modulus.SIZE (view_of l.fn.self) part →
          Goes g.M.Modulus.SIZE (view_of l.self) (length l.fn.self.early.items - l.done) (move_on part);
      adds : Adds 0 (view_of l.fn.self) (view_of l.self);
    }
