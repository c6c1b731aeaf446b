use Rattle.std.proofs.Common.{refl}
use Rattle.ax_link.proofs.Standings.{text_goes}
use Rattle.ax_link.proofs.machine.Machine.emit_text.Goals as goal

pub returns-clause-puts : goal.returns-clause-puts
returns-clause-puts g c =
    record {
      same = refl;
      frames = λ before h.
          rw c.push.ensures
          (text_goes _ _ c.args.number _ _ before _ _ _ c.wire.ensures c.wire-2.ensures (rw h c.text_of-payload.ensures) (rw h c.requires.waits));
    }
