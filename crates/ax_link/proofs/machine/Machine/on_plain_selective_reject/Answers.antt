use Rattle.std.proofs.Common.{◌-◌, None}
use Rattle.radio_base.specs.Modulus.{place_of}
use Rattle.ax_link.specs.Calls.{view_of, texts_out}
use Rattle.ax_link.proofs.Standings.{placed}
use Rattle.ax_link.proofs.machine.Machine.on_plain_selective_reject.Goals as goal

pub returns-in-Some-clause-does : goal.returns-in-Some-clause-does
returns-in-Some-clause-does g c = λ now.
    placed _ (view_of c.args.self.now) _ _ (λ y part. texts_out y 1 part) (λ part. place_of part.link.rules.size c.args.nr part.link.acked (part.link.sent - part.link.acked))
    (λ before received _ _. c.in-Some.ensures.exact) c.emit_texts.ensures.does

pub returns-in_default-clause-does : goal.returns-in_default-clause-does
returns-in_default-clause-does g c = λ now.
    placed _ (view_of c.args.self.now) _ None (λ y part. texts_out y 1 part) (λ part. place_of part.link.rules.size c.args.nr part.link.acked (part.link.sent - part.link.acked))
    (λ before received _ _. c.in_default.ensures.exact) (λ part stands. stands)
