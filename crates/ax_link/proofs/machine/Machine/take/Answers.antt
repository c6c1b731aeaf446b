use Rattle.std.proofs.Common.{refl, sym, ◌∙◌}
use Rattle.ax_link.specs.Calls.{view_of}
use Rattle.ax_link.proofs.Standings.{taken_from_full}
use Rattle.ax_link.proofs.machine.Machine.take.Goals as goal

pub returns-then-busy-clause-does : goal.returns-then-busy-clause-does
returns-then-busy-clause-does g c =
    taken_from_full g.M.Modulus.SIZE (view_of c.args.self.now) _ (view_of c.resume.new.self) (rw c.pop_front-payload.ensures.items refl)
    (sym c.is_up_and_busy-busy.ensures ∙ c.if-busy.true) c.resume.ensures.does
