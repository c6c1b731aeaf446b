use Rattle.std.proofs.Common.{[], ◌∷◌, ◌++◌, ◌∙◌, sym}
use Rattle.std.proofs.lemmas.Result.{IfOk-weaker}
use Rattle.circuit_set.specs.Books.{empty, with_events, lost_in}
use Rattle.circuit_verdict.specs.Verdicts.{event_of, events_of}
use Rattle.circuit_verdict.proofs.AsTold.{as_noted, as_told}
use Rattle.circuit_verdict.proofs.Causes.{none_after}
use Rattle.circuit_verdict.proofs.Runs.{book_in_time}
use Rattle.circuit_verdict.proofs.verdict.Verdict.cause.Goals as goal

pub returns-clause-exact : goal.returns-clause-exact
returns-clause-exact c =
    let law = c.book_tells_what_is_late.ensures in
    IfOk-weaker c.cause.result _ _
    (λ cause told events stands timely.
    told (with_events empty (events_of events)) (lost_in [] (events_of events))
    (book_in_time c.args.self.now.allowance c.args.self.now.late c.args.self.now.book events stands (as_noted law.fresh law.timely law.fixed c.args.self.now.allowance (events_of events) timely)))
    c.cause.ensures

pub returns-clause-none : goal.returns-clause-none
returns-clause-none c =
    let law = c.book_tells_what_is_late.ensures in
    IfOk-weaker c.cause.result _ _
    (λ cause told events stands timely.
    (let a = c.args.self.now.allowance in
    let noted = as_noted law.fresh law.timely law.fixed a (events_of events) timely in
    let after = none_after a (events_of events) (event_of c.args.event.now) noted in
    let all = events_of events ++ event_of c.args.event.now ∷ [] in
    rw (told (with_events empty (events_of events)) (lost_in [] (events_of events)) (book_in_time a c.args.self.now.late c.args.self.now.book events stands noted))
    ((λ none. as_told law.fresh law.timely law.fixed a all (after.0 none)), (λ t. after.1 (as_noted law.fresh law.timely law.fixed a all t)))))
    c.cause.ensures

pub returns-clause-shows : goal.returns-clause-shows
returns-clause-shows c =
    let law = c.book_tells_what_is_late.ensures in
    IfOk-weaker c.cause.result _ _
    (λ cause told events stands timely shown is.
    (let a = c.args.self.now.allowance in
    let noted = as_noted law.fresh law.timely law.fixed a (events_of events) timely in
    c.causes_show.ensures a (events_of events) (event_of c.args.event.now) shown timely
    (sym (told (with_events empty (events_of events)) (lost_in [] (events_of events)) (book_in_time a c.args.self.now.late c.args.self.now.book events stands noted)) ∙ is)))
    c.cause.ensures
