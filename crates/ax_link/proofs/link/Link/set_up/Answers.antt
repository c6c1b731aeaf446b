use Rattle.ax_link.specs.Calls.{view_of, set_up}
use Rattle.ax_link.specs.Table as table
use Rattle.ax_link.proofs.CallSteps.{stepped}
use Rattle.ax_link.proofs.PutFrames.{all_put, quiet, quiet_set_up}
use Rattle.ax_link.proofs.Within.{keeps_on, within}
use Rattle.ax_link.proofs.link.Link.set_up.Goals as goal

pub returns-clause-does : goal.returns-clause-does
returns-clause-does g c =
    rw (← c.self.view_is)
    (within g.M.Modulus.SIZE (view_of c.self.inside.machine) _ table.Set_up c.args.now.0 tt
    (stepped g.M.Modulus.SIZE (view_of c.self.inside.machine) _ _ _ set_up (rw (← c.self.view_is) at c.requires) c.of.ensures c.set_up.ensures.does))

pub returns-clause-kept : goal.returns-clause-kept
returns-clause-kept g c =
    rw (← c.self.view_is)
    (keeps_on g.M.Modulus.SIZE (view_of c.self.inside.machine) _ table.Set_up c.args.now.0 tt
    (stepped g.M.Modulus.SIZE (view_of c.self.inside.machine) _ _ _ set_up (rw (← c.self.view_is) at c.requires) c.of.ensures c.set_up.ensures.does))

pub invariant_of-self : goal.invariant_of-self
invariant_of-self g c = (
  rw c.set_up.ensures.window c.self.invariant.0,
  all_put g.M.Modulus.SIZE c.self.inside.machine (view_of c.set_up.new.self) table.Set_up c.args.now.0 c.self.invariant.0
      (stepped g.M.Modulus.SIZE (view_of c.self.inside.machine) _ _ _ set_up (rw (← c.self.view_is) at c.requires) c.of.ensures c.set_up.ensures.does),
)

pub returns-clause-quiet : goal.returns-clause-quiet
returns-clause-quiet g c =
    quiet g.M.Modulus.SIZE c.self.inside.machine (view_of c.set_up.new.self) table.Set_up c.args.now.0 (quiet_set_up c.args.now.0)
    (stepped g.M.Modulus.SIZE (view_of c.self.inside.machine) _ _ _ set_up (rw (← c.self.view_is) at c.requires) c.of.ensures c.set_up.ensures.does)
