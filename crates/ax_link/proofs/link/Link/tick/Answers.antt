use Rattle.ax_link.specs.Table.{tick}
use Rattle.ax_link.specs.Calls.{view_of}
use Rattle.ax_link.specs.Table as table
use Rattle.ax_link.proofs.CallSteps.{stepped}
use Rattle.ax_link.proofs.PutFrames.{all_put}
use Rattle.ax_link.proofs.Within.{keeps_on, within}
use Rattle.ax_link.proofs.link.Link.tick.Goals as goal

pub returns-clause-does : goal.returns-clause-does
returns-clause-does g c =
    rw (← c.self.view_is)
    (within g.M.Modulus.SIZE (view_of c.self.inside.machine) _ table.Tick c.args.now.0 tt
    (stepped g.M.Modulus.SIZE (view_of c.self.inside.machine) _ _ _ tick (rw (← c.self.view_is) at c.requires) c.of.ensures c.tick.ensures.does))

pub returns-clause-kept : goal.returns-clause-kept
returns-clause-kept g c =
    rw (← c.self.view_is)
    (keeps_on g.M.Modulus.SIZE (view_of c.self.inside.machine) _ table.Tick c.args.now.0 tt
    (stepped g.M.Modulus.SIZE (view_of c.self.inside.machine) _ _ _ tick (rw (← c.self.view_is) at c.requires) c.of.ensures c.tick.ensures.does))

pub invariant_of-self : goal.invariant_of-self
invariant_of-self g c = (
  rw c.tick.ensures.window c.self.invariant.0,
  all_put g.M.Modulus.SIZE c.self.inside.machine (view_of c.tick.new.self) table.Tick c.args.now.0 c.self.invariant.0
      (stepped g.M.Modulus.SIZE (view_of c.self.inside.machine) _ _ _ tick (rw (← c.self.view_is) at c.requires) c.of.ensures c.tick.ensures.does),
)
