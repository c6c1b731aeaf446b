use Rattle.std.proofs.Common.{refl}
use Rattle.ax_link.specs.Table.{take_first}
use Rattle.ax_link.specs.Calls.{view_of}
use Rattle.ax_link.specs.Table as table
use Rattle.ax_link.proofs.CallSteps.{stepped}
use Rattle.ax_link.proofs.PutFrames.{all_put, quiet, quiet_take}
use Rattle.ax_link.proofs.Within.{keeps_on, within}
use Rattle.ax_link.proofs.link.Link.take.Goals as goal

pub returns-clause-does : goal.returns-clause-does
returns-clause-does g c =
    rw (← c.self.view_is)
    (within g.M.Modulus.SIZE (view_of c.self.inside.machine) _ table.Take c.args.now.0 tt
    (stepped g.M.Modulus.SIZE (view_of c.self.inside.machine) _ 0 0 (λ _ part. take_first part) (rw (← c.self.view_is) at c.requires) refl c.take.ensures.does))

pub returns-clause-kept : goal.returns-clause-kept
returns-clause-kept g c =
    rw (← c.self.view_is)
    (keeps_on g.M.Modulus.SIZE (view_of c.self.inside.machine) _ table.Take c.args.now.0 tt
    (stepped g.M.Modulus.SIZE (view_of c.self.inside.machine) _ 0 0 (λ _ part. take_first part) (rw (← c.self.view_is) at c.requires) refl c.take.ensures.does))

pub invariant_of-self : goal.invariant_of-self
invariant_of-self g c = (
  rw c.take.ensures.window c.self.invariant.0,
  all_put g.M.Modulus.SIZE c.self.inside.machine (view_of c.take.new.self) table.Take c.args.now.0 c.self.invariant.0
      (stepped g.M.Modulus.SIZE (view_of c.self.inside.machine) _ 0 0 (λ _ part. take_first part) (rw (← c.self.view_is) at c.requires) refl c.take.ensures.does),
)

pub returns-clause-quiet : goal.returns-clause-quiet
returns-clause-quiet g c =
    quiet g.M.Modulus.SIZE c.self.inside.machine (view_of c.take.new.self) table.Take c.args.now.0 (quiet_take c.args.now.0)
    (stepped g.M.Modulus.SIZE (view_of c.self.inside.machine) _ 0 0 (λ _ part. take_first part) (rw (← c.self.view_is) at c.requires) refl c.take.ensures.does)
