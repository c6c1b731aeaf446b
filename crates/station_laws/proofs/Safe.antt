-- The circuits of stations are safe, since what happens is a run of them.
use Rattle.std.proofs.Common.{◌≡◌, ◌∙◌, sym, ap, subst, List, [], ◌++◌, append-nil}
use Rattle.circuit_set.proofs.SafeEvents.{front_are}
use Rattle.circuit_set.specs.Safe as sets
use Rattle.circuit_set.specs.Safe.{CircuitsSafe, Safe}
use Rattle.circuit_set.specs.TooLate.{AllowsByWindow, IsFresh, IsTimely}
use Rattle.circuit_table.specs.Events.{Event}
use Rattle.circuit_table.specs.Runs.{AreSteps, Step, events_of, sets_run}
use Rattle.circuit_table.specs.Sets.{SetState}
use Rattle.node_model.specs.States.{NodeState}
use Rattle.station_laws.specs.Happenings.{Happening, nodes_after, started_in, told_by}
use Rattle.station_laws.specs.Laws.{CircuitsOfStationsAreSafe, IsCircuitRun, RetriesAreTold, SafeNow, StationsAreCircuitRuns, circuits_of}

safe_at : CircuitsSafe → (nodes : List NodeState) (done : List Happening) (r : IsCircuitRun nodes done)
    → IsTimely AllowsByWindow (told_by done nodes) → IsFresh (told_by done nodes)
    → (before after : List Step) → r.steps ≡ before ++ after → Safe (circuits_of nodes) before
safe_at law nodes done r timely fresh before after is =
    let told : told_by done nodes ≡ events_of (circuits_of nodes) (before ++ after) = sym r.told ∙ ap (events_of (circuits_of nodes)) is in
    law (circuits_of nodes) r.starts before after (subst AreSteps is r.are)
    (subst (λ (es : List Event). IsTimely AllowsByWindow es) told timely)
    (subst (λ (es : List Event). IsFresh es) told fresh)

safe_now : (nodes : List NodeState) (done : List Happening) (r : IsCircuitRun nodes done) → Safe (circuits_of nodes) r.steps
    → SafeNow (told_by done nodes) (circuits_of (nodes_after done nodes))
safe_now nodes done r safe =
    let then : SafeNow (events_of (circuits_of nodes) r.steps) (sets_run (circuits_of nodes) r.steps) = λ x h e. (safe x h e).end in
    subst (λ (ss : List SetState). SafeNow (told_by done nodes) ss) r.circuits
    (subst (λ (es : List Event). SafeNow es (sets_run (circuits_of nodes) r.steps)) r.told then)

pub are_safe : StationsAreCircuitRuns → CircuitsSafe → CircuitsOfStationsAreSafe
are_safe runs law stations are all order done later is timely fresh =
    let nodes : List NodeState = started_in stations in
    let r : IsCircuitRun nodes done = runs stations are all order done later is in
    let safe = safe_at law nodes done r timely fresh in
    record { now = safe_now nodes done r (safe r.steps [] (sym (append-nil r.steps))); run = r; safe = safe }

pub tell_retries : StationsAreCircuitRuns → sets.RetriesAreTold → RetriesAreTold
tell_retries runs law stations are all order done later is =
    let nodes : List NodeState = started_in stations in
    let r : IsCircuitRun nodes done = runs stations are all order done later is in
    record { run = r; told = λ before after s. law (circuits_of nodes) r.starts before (front_are before after (subst AreSteps s r.are)) }
