-- The trace of a network as text: JSON objects, one a line. Own profile.
use Rattle.std.specs.Prelude.{ℕ, List, ◌++◌, Option}
use Rattle.circuit_verdict.specs.declared.late.Late.{Late}
use Rattle.network_file.specs.Plan.{Plan}
use Rattle.net_verdict.specs.declared.causes.LateCause.{LateCause}
use Rattle.net_model.specs.Ends.{ends_of}
use Rattle.net_model.specs.World.{World}
use Rattle.trace_lines.specs.Events.{events_from, repeats}
use Rattle.trace_lines.specs.Heads.{file_text, network_text}
use Rattle.trace_lines.specs.Left.{nodes_trace}
use Rattle.trace_lines.specs.Verdicts.{cause_text, verdict_line}

-- the network that was read, the lines of its file, all that was told, each node with its mail as it was left, and the verdict with its
-- cause
abbrev pub trace_text : List ℕ → Plan → World → Option Late → Option LateCause → List ℕ
trace_text file plan w late cause =
    network_text plan
    ++ (file_text file
    ++ (events_from (repeats plan.instructions) w.air 1 w.told
    ++ (nodes_trace (λ node. ends_of node w.told) w.nodes w.mails ++ (verdict_line late ++ cause_text cause))))
