use Rattle.std.proofs.Common.{◌≡◌, ◌++◌, drop}
use Rattle.std.specs.Prelude.{flat_map}
use Rattle.net_report.specs.Reporting.{text_left}
use Rattle.net_model.specs.Traces.{left_of}
use Rattle.net_report.proofs.reports.write_events.Given as goal

abbrev pub invariant-loop-numbered : goal.invariant-loop-numbered
invariant-loop-numbered l =
    l.text ++ flat_map (text_left (left_of l.trace)) (drop l.numbered-index (left_of l.trace).events) ≡ l.fn.text ++ flat_map (text_left (left_of l.trace)) (left_of l.trace).events
