use Rattle.std.proofs.Common.{◌≡◌, take}
use Rattle.std.specs.Prelude.{count_by}
use Rattle.net_model.specs.declared.events.NumberedEvent.{NumberedEvent}
use Rattle.net_model.specs.Events.{event_of}
use Rattle.net_report.specs.Reports.{is_failure}
use Rattle.net_report.proofs.soak.failures_in.Given as goal

abbrev pub invariant-loop-numbered : goal.invariant-loop-numbered
invariant-loop-numbered l = l.count ≡ count_by (λ (e : NumberedEvent). is_failure (event_of e.event)) (take l.numbered-index l.events)
