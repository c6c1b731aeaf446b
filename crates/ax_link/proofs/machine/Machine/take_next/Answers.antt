use Rattle.std.proofs.Common.{refl}
use Rattle.ax_link.specs.Kinds.{payload}
use Rattle.ax_link.specs.Calls.{view_of}
use Rattle.ax_link.proofs.Standings.{takes_next}
use Rattle.ax_link.proofs.machine.Machine.take_next.Goals as goal

pub returns-clause-does : goal.returns-clause-does
returns-clause-does g c =
    takes_next g.M.Modulus.SIZE (view_of c.args.self.now) _ (payload c.args.pid c.args.info.now) _ c.args.self.now.early_places (rw (c.push.ensures, c.of.ensures, c.bring_nearer.ensures) refl)
