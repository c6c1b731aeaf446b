use Rattle.std.proofs.Common.{◌∙◌, ap}
use Rattle.std.specs.Prelude.{Some}
use Rattle.station_trial.proofs.Consoles.{member_there, no_member}
use Rattle.station_trial.proofs.Placing.{at_console, none_at_console}
use Rattle.station_trial.proofs.trial.Trial.is_members.Goals as goal

pub returns-in-Some : goal.returns-in-Some
returns-in-Some c = λ s stands.
    let found = c.in-Some.ensures.lookup in
    let p = at_console _ s c.in-Some.one.now (rw c.deref.ensures.value at found.3.0) (rw c.deref.ensures.value at found.1) (rw (← c.self.view_is) at stands) in
    ap (λ b. Some b) c.is_some.ensures ∙ member_there c.args.call.now s c.in-Some.one.now p c.member_of.result (c.member_of.ensures p.one.station p.stands.station)

pub returns-in-None : goal.returns-in-None
returns-in-None c = λ s stands.
    no_member c.args.call.now s (none_at_console _ s (rw c.deref.ensures.value at c.in-None.ensures.lookup.3) (rw (← c.self.view_is) at stands))
