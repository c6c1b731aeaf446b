use Rattle.std.proofs.Common.{◌∙◌, ap, sym}
use Rattle.station_trial.specs.Directing.{port_in}
use Rattle.station_trial.proofs.Placing.{at_console, none_at_console, port_there}
use Rattle.station_trial.proofs.trial.Trial.port_named.Goals as goal

pub returns-in-Some : goal.returns-in-Some
returns-in-Some c = λ s stands.
    let found = c.in-Some.ensures.lookup in
    let p = at_console _ s c.in-Some.one.now (rw c.deref.ensures.value at found.3.0) (rw c.deref.ensures.value at found.1) (rw (← c.self.view_is) at stands) in
    c.port_named.ensures ∙ port_there c.args.word.now s c.in-Some.one.now p

pub returns-in-None : goal.returns-in-None
returns-in-None c = λ s stands.
    sym (ap (λ t. port_in c.args.word.now t) (none_at_console _ s (rw c.deref.ensures.value at c.in-None.ensures.lookup.3) (rw (← c.self.view_is) at stands)))
