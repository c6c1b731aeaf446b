use Rattle.std.proofs.Common.{◌≡◌}
use Rattle.look_cmd.specs.declared.command.LookCommand.TheVariants.{Listen, Trace}
use Rattle.look_cmd.proofs.Commands.{never_both, one_modulus}
use Rattle.look_cmd.proofs.top.look.Goals as goal

-- words name one modulus
pub returns-in-Some-Listen-clause-listen : goal.returns-in-Some-Listen-clause-listen
returns-in-Some-Listen-clause-listen g c = λ m asked.
    let found = rw c.in-Some-Listen.field-0-is at c.in-Some-Listen.ensures.found in
    let same : c.in-Some-Listen.modulus ≡ m = one_modulus c.args.words.now c.in-Some-Listen.modulus m found asked in
    rw (← same) c.listen_to_stream.ensures.ends

-- words that ask for one command don't ask for the other
pub returns-in-Some-Listen-clause-trace : goal.returns-in-Some-Listen-clause-trace
returns-in-Some-Listen-clause-trace g c = λ asked.
    absurd (never_both c.args.words.now c.in-Some-Listen.modulus asked (rw c.in-Some-Listen.field-0-is at c.in-Some-Listen.ensures.found))

pub returns-in-Some-Listen-clause-whole : goal.returns-in-Some-Listen-clause-whole
returns-in-Some-Listen-clause-whole g c = λ asked.
    absurd (never_both c.args.words.now c.in-Some-Listen.modulus asked (rw c.in-Some-Listen.field-0-is at c.in-Some-Listen.ensures.found))

pub returns-in-Some-Trace-clause-listen : goal.returns-in-Some-Trace-clause-listen
returns-in-Some-Trace-clause-listen g c = λ m asked.
    absurd (never_both c.args.words.now m (rw c.in-Some-Trace.field-0-is at c.in-Some-Trace.ensures.found) asked)

-- words that are no command's
pub returns-in-None-clause-listen : goal.returns-in-None-clause-listen
returns-in-None-clause-listen g c = λ m asked. absurd (c.in-None.ensures.none (Listen m) asked)

pub returns-in-None-clause-trace : goal.returns-in-None-clause-trace
returns-in-None-clause-trace g c = λ asked. absurd (c.in-None.ensures.none Trace asked)

pub returns-in-None-clause-whole : goal.returns-in-None-clause-whole
returns-in-None-clause-whole g c = λ asked. absurd (c.in-None.ensures.none Trace asked)
