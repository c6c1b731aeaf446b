use Rattle.std.proofs.Common.{◌∙◌, ap, refl, sym}
use Rattle.std.specs.Prelude.{Some}
use Rattle.std.proofs.lemmas.Option.{slice_get_past, slice_get_read}
use Rattle.station_trial.specs.Trials.{name_at}
use Rattle.station_trial.proofs.Placing.{name_nowhere, name_there, placed}
use Rattle.station_trial.proofs.trial.Trial.name_of.Goals as goal

pub returns-in_default : goal.returns-in_default
returns-in_default c = λ s stands.
    let held = rw (← c.self.view_is) at stands in
    name_nowhere c.self.inside.tried.items s.tried c.args.flight.now held.tried (rw c.deref.ensures.value at c.in_default.ensures.lookup.3)

pub returns-in_ok-from_str-in-Some-get : goal.returns-in_ok-from_str-in-Some-get
returns-in_ok-from_str-in-Some-get c = λ s stands.
    let held = rw (← c.self.view_is) at stands in
    let sender = c.in-Some.ensures.lookup in
    let port = c.in-Some-get.ensures.lookup in
    let p = placed c.self.inside.tried.items s.tried c.args.flight.now.«from» c.in-Some.sender.now held.tried (rw c.deref.ensures.value at sender.3.0) (rw c.deref.ensures.value at sender.1) in
    let there = slice_get_read c.in-Some.sender.now.file.ports _ c.args.flight.now.frame.port c.in-Some-get.port.now refl (rw c.ports.ensures.ports at port.3.0) (rw c.ports.ensures.ports at port.1) in
    ap (λ t. Some t) (c.in_ok-from_str-in-Some-get.ensures.ok ∙ c.as_str.ensures)
    ∙ (sym (ap (λ o. name_at o) there) ∙ name_there s.tried c.args.flight.now c.in-Some.sender.now p)

pub returns-in-None : goal.returns-in-None
returns-in-None c = λ s stands.
    let held = rw (← c.self.view_is) at stands in
    let sender = c.in-Some.ensures.lookup in
    let p = placed c.self.inside.tried.items s.tried c.args.flight.now.«from» c.in-Some.sender.now held.tried (rw c.deref.ensures.value at sender.3.0) (rw c.deref.ensures.value at sender.1) in
    let none = slice_get_past c.in-Some.sender.now.file.ports c.args.flight.now.frame.port (rw c.ports.ensures.ports at c.in-None.ensures.lookup.3) in
    sym (ap (λ o. name_at o) none) ∙ name_there s.tried c.args.flight.now c.in-Some.sender.now p
