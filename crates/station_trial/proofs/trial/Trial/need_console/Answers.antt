use Rattle.std.proofs.Common.{◌∙◌, refl, sym}
use Rattle.station_trial.proofs.Consoles.{console_opens, console_stands, no_console_stands}
use Rattle.station_trial.proofs.Placing.{at_console, none_at_console}
use Rattle.station_trial.proofs.trial.Trial.need_console.Goals as goal

pub returns-then-is_open : goal.returns-then-is_open
returns-then-is_open c = λ s stands.
    let found = c.in-Some.ensures.lookup in
    let p = at_console _ s c.in-Some.one.now (rw c.deref.ensures.value at found.3.0) (rw c.deref.ensures.value at found.1) (rw (← c.self.view_is) at stands) in
    console_stands _ s c.in-Some.one.now p (sym c.if-is_open.true ∙ c.is_open.ensures p.one.station p.stands.station) stands

pub returns-in_ok-open_as-in-Some : goal.returns-in_ok-open_as-in-Some
returns-in_ok-open_as-in-Some c = λ s stands.
    let found = c.in-Some.ensures.lookup in
    let p = at_console _ s c.in-Some.one.now (rw c.deref.ensures.value at found.3.0) (rw c.deref.ensures.value at found.1) (rw (← c.self.view_is) at stands) in
    console_opens _ s c.in-Some.one.now c.in-Some.one.now.call p refl (sym c.if-is_open.false ∙ c.is_open.ensures p.one.station p.stands.station) (c.in_ok-open_as-in-Some.ensures s stands)

pub returns-in-None : goal.returns-in-None
returns-in-None c = λ s stands.
    no_console_stands _ s (none_at_console _ s (rw c.deref.ensures.value at c.in-None.ensures.lookup.3) (rw (← c.self.view_is) at stands)) stands
