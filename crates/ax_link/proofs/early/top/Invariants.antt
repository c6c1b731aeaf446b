use Rattle.std.proofs.Common.{◌≡◌, ◌≤◌, take}
use Rattle.ax_link.specs.State as state
use Rattle.ax_link.proofs.early.top.Given as goal

abbrev pub invariant-loop-place : goal.invariant-loop-place
invariant-loop-place l = record { value : l.top ≡ state.top (take l.place l.early.items); within : l.top ≤ l.place }
