use Rattle.ax_link.specs.Kinds.{frame_in}
use Rattle.ax_link.specs.Calls.{view_of, arrive}
use Rattle.ax_link.specs.Table as table
use Rattle.ax_link.proofs.CallSteps.{stepped}
use Rattle.ax_link.proofs.PutFrames.{all_put}
use Rattle.ax_link.proofs.Within.{keeps_on, small_in, within}
use Rattle.ax_link.proofs.link.Link.arrive.Goals as goal

pub returns-clause-does : goal.returns-clause-does
returns-clause-does g c =
    rw (← c.self.view_is)
    (within g.M.Modulus.SIZE (view_of c.self.inside.machine) _ (table.Arrive (frame_in g.M.Modulus.SIZE c.args.command c.args.control.now c.args.pid c.args.info.now)) c.args.now.0 (small_in c.args.pid c.args.info.now)
    (stepped g.M.Modulus.SIZE (view_of c.self.inside.machine) _ _ _ (λ now part. arrive now (frame_in g.M.Modulus.SIZE c.args.command c.args.control.now c.args.pid c.args.info.now) part) (rw (← c.self.view_is) at c.requires) c.of.ensures (rw c.of-frame.ensures at c.arrive.ensures.does)))

pub returns-clause-kept : goal.returns-clause-kept
returns-clause-kept g c =
    rw (← c.self.view_is)
    (keeps_on g.M.Modulus.SIZE (view_of c.self.inside.machine) _ (table.Arrive (frame_in g.M.Modulus.SIZE c.args.command c.args.control.now c.args.pid c.args.info.now)) c.args.now.0 (small_in c.args.pid c.args.info.now)
    (stepped g.M.Modulus.SIZE (view_of c.self.inside.machine) _ _ _ (λ now part. arrive now (frame_in g.M.Modulus.SIZE c.args.command c.args.control.now c.args.pid c.args.info.now) part) (rw (← c.self.view_is) at c.requires) c.of.ensures (rw c.of-frame.ensures at c.arrive.ensures.does)))

pub invariant_of-self : goal.invariant_of-self
invariant_of-self g c = (
  rw c.arrive.ensures.window c.self.invariant.0,
  all_put g.M.Modulus.SIZE c.self.inside.machine (view_of c.arrive.new.self) (table.Arrive (frame_in g.M.Modulus.SIZE c.args.command c.args.control.now c.args.pid c.args.info.now)) c.args.now.0 c.self.invariant.0
      (stepped g.M.Modulus.SIZE (view_of c.self.inside.machine) _ _ _ (λ now part. arrive now (frame_in g.M.Modulus.SIZE c.args.command c.args.control.now c.args.pid c.args.info.now) part) (rw (← c.self.view_is) at c.requires) c.of.ensures (rw c.of-frame.ensures at c.arrive.ensures.does)),
)
