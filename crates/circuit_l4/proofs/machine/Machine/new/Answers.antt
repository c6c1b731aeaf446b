use Rattle.std.proofs.Common.{[], List, ap, refl, sym, arith}
use Rattle.circuit_l4.specs.Opening.{unheard, unwritten, new}
use Rattle.circuit_l4.specs.State.{Effect, Out, begin}
use Rattle.circuit_l4.proofs.Waiting.{none_out}
use Rattle.circuit_l4.proofs.machine.Machine.new.Goals as goal

pub returns-clause-opening : goal.returns-clause-opening
returns-clause-opening c =
    let first : Effect = begin (new c.args.beginning c.args.config c.args.now) in
    rw (c.ms.ensures.value, c.in_ok-outgoing.ensures, c.in_ok-incoming.ensures.value, c.in_ok-outs.ensures)
    (record {
      written = unwritten;
      came = unheard c.args.config.window;
      sending = record { before = []; wrote = refl; count = refl; total = refl; acked = refl; sent = refl; places = refl };
      receiving = record { got = refl; early = refl; gathered = refl; messages = refl; count = refl; taken = omega arith; nak_sent_for = refl };
      is = ap (λ (outs : List Out). record first { outs = outs }) (sym (none_out [] 0));
    })
