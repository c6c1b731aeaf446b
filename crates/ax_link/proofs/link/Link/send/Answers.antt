use Rattle.std.proofs.Common.{◌≤◌, ap, is_ok, length, OnOk, subst, sym, ◌∙◌}
use Rattle.ax_link.specs.Bounds.{AllCanBeSent}
use Rattle.ax_link.specs.Standing.{LinkView}
use Rattle.ax_link.specs.Calls.{view_of}
use Rattle.ax_link.specs.Table as table
use Rattle.ax_link.proofs.CallSteps.{accepts, on_ok, takes_is}
use Rattle.ax_link.proofs.PutFrames.{all_put, either, on_err_then, quiet, quiet_send}
use Rattle.ax_link.proofs.Within.{keeps_on, small_of, within}
use Rattle.ax_link.proofs.link.Link.send.Goals as goal

pub returns-clause-does : goal.returns-clause-does
returns-clause-does g c =
    rw (← c.self.view_is)
    (on_ok c.send.result _ _
    (λ is does. within g.M.Modulus.SIZE (view_of c.self.inside.machine) _ (table.Send c.args.payload.now) c.args.now.0
    (small_of c.args.payload.now (subst (λ r. OnOk r (length c.args.payload.now.info.items ≤ 256)) is c.send.ensures.small))
    (accepts g.M.Modulus.SIZE (view_of c.self.inside.machine) _ _ _ _ (rw (← c.self.view_is) at c.requires) c.of.ensures (sym c.send.ensures.answer ∙ is) does))
    c.send.ensures.does)

pub returns-clause-kept : goal.returns-clause-kept
returns-clause-kept g c =
    rw (← c.self.view_is)
    (on_ok c.send.result _ _
    (λ is does. keeps_on g.M.Modulus.SIZE (view_of c.self.inside.machine) _ (table.Send c.args.payload.now) c.args.now.0
    (small_of c.args.payload.now (subst (λ r. OnOk r (length c.args.payload.now.info.items ≤ 256)) is c.send.ensures.small))
    (accepts g.M.Modulus.SIZE (view_of c.self.inside.machine) _ _ _ _ (rw (← c.self.view_is) at c.requires) c.of.ensures (sym c.send.ensures.answer ∙ is) does))
    c.send.ensures.does)

pub returns-clause-takes : goal.returns-clause-takes
returns-clause-takes g c = rw (← c.self.view_is) (λ s stands. ap is_ok c.send.ensures.answer ∙ takes_is g.M.Modulus.SIZE (view_of c.self.inside.machine) s stands.keeps)

pub returns-clause-quiet : goal.returns-clause-quiet
returns-clause-quiet g c =
    on_ok c.send.result _ _
    (λ is does. quiet g.M.Modulus.SIZE c.self.inside.machine (view_of c.send.new.self) (table.Send c.args.payload.now) c.args.now.0 (quiet_send c.args.now.0 c.args.payload.now)
    (accepts g.M.Modulus.SIZE (view_of c.self.inside.machine) _ _ _ _ (rw (← c.self.view_is) at c.requires) c.of.ensures (sym c.send.ensures.answer ∙ is) does))
    c.send.ensures.does

pub invariant_of-self : goal.invariant_of-self
invariant_of-self g c = (
  rw c.send.ensures.window c.self.invariant.0,
  either c.send.result _
      (on_ok c.send.result _ _
      (λ is does. all_put g.M.Modulus.SIZE c.self.inside.machine (view_of c.send.new.self) (table.Send c.args.payload.now) c.args.now.0 c.self.invariant.0
      (accepts g.M.Modulus.SIZE (view_of c.self.inside.machine) _ _ _ _ (rw (← c.self.view_is) at c.requires) c.of.ensures (sym c.send.ensures.answer ∙ is) does))
      c.send.ensures.does)
      (on_err_then c.send.result _ _
      (λ e. subst (λ (h : LinkView). AllCanBeSent g.M.Modulus.SIZE h.outs) (sym e) c.self.invariant.1)
      c.send.ensures.err),
)
