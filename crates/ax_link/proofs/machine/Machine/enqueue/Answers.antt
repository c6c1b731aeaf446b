use Rattle.std.proofs.Common.{refl}
use Rattle.ax_link.specs.Calls.{view_of}
use Rattle.ax_link.proofs.Standings.{queues}
use Rattle.ax_link.proofs.machine.Machine.enqueue.Goals as goal

pub returns-clause-does : goal.returns-clause-does
returns-clause-does g c = queues g.M.Modulus.SIZE (view_of c.args.self.now) _ c.args.payload.now (rw (c.push.ensures, c.copy_of.ensures.same) refl)
