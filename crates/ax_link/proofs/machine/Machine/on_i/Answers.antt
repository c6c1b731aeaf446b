use Rattle.std.proofs.Common.{None}
use Rattle.ax_link.specs.State.{ack_place}
use Rattle.ax_link.specs.Moves.{i_at}
use Rattle.ax_link.specs.Calls.{brought, view_of}
use Rattle.ax_link.proofs.Standings.{placed}
use Rattle.ax_link.proofs.machine.Machine.on_i.Goals as goal

pub returns-in-Some-clause-does : goal.returns-in-Some-clause-does
returns-in-Some-clause-does g c =
    placed _ (view_of c.args.self.now) _ _ (i_at c.args.now c.args.i_frame.now.pf c.args.i_frame.now.ns (brought c.args.i_frame.now)) (λ part. ack_place part.link c.args.nr) (λ before received _ _. c.in-Some.ensures.exact before received)
    c.i_at.ensures.does

pub returns-in_default-clause-does : goal.returns-in_default-clause-does
returns-in_default-clause-does g c =
    placed _ (view_of c.args.self.now) _ None (i_at c.args.now c.args.i_frame.now.pf c.args.i_frame.now.ns (brought c.args.i_frame.now)) (λ part. ack_place part.link c.args.nr) (λ before received _ _. c.in_default.ensures.exact before received)
    (λ part stands. stands)
