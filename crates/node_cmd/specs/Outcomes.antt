-- What a command that runs a network writes and leaves of it, and what `replay` reads.
use Rattle.std.specs.Prelude.{ℕ, ◌≡◌, ◌≢◌, ◌≤◌, List, length, Option, Some, None, Result, Ok, Err}
use Rattle.std.specs.Io.KnownBytes.{Appends}
use Rattle.radio_base.specs.Causes.{Rose}
use Rattle.circuit_verdict.specs.declared.late.Late.{Late}
use Rattle.network_file.specs.Networks.{Bad, network_of, word_for}
use Rattle.network_file.specs.Plan.{Plan}
use Rattle.net_model.specs.declared.trace.Trace.{Trace}
use Rattle.net_model.specs.World.{most_frames, World}
use Rattle.net_model.specs.Circuits.{IsVerdictOn, allowance_of, AirsFew, AirsTooMany, IsInTime, IsLate, IsNetwork}
use Rattle.net_model.specs.Lines.{world}
use Rattle.net_laws.specs.Promises.{MailOnceThroughout, RetriesAreTold, SafeThroughout}
use Rattle.net_report.specs.Reports.{report_text, soak_text}
use Rattle.net_model.specs.Standing.{IsTraceOf}
use Rattle.net_model.specs.Traces.{allowance_in, left_of}
use Rattle.cmd_streams.specs.Told.{Comes, WritesWell, IsBadFile, IsNoted, StreamsTold, AppendsFront}
use Rattle.cmd_streams.specs.declared.status.Status.{Status}
use Rattle.cmd_streams.specs.declared.status.Status.TheVariants as statuses
use Rattle.cmd_streams.specs.Reading.{ReadsFile}
use Rattle.node_cmd.specs.declared.outcomes.NetworkOutcome.{NetworkOutcome}
use Rattle.node_cmd.specs.declared.outcomes.Printed.{Printed}
use Rattle.node_cmd.specs.declared.outcomes.Printed.TheVariants.{Report, SoakLine}
use Rattle.node_cmd.specs.declared.report_refusal.ReportRefusal.{ReportRefusal}
use Rattle.node_cmd.specs.declared.report_refusal.ReportRefusal.TheVariants.{BadLine, TooManyFrames, NoMemory}
use Rattle.node_cmd.specs.declared.ran.Ran.{Ran}
use Rattle.node_cmd.specs.declared.ran.Ran.TheVariants.{Replayed}

-- what is written of a network, with the verdict on it: its report, or the line on the soak of a number
abbrev pub text_of : Printed → World → Option Late → List ℕ
text_of Report w late = report_text w late
text_of (SoakLine seed) w late = soak_text seed w late

-- why there is nothing to write of what was read: a bad line, too many frames, or want of memory
abbrev pub NotReported : ReportRefusal → Result Plan Bad → Type 0
NotReported (BadLine line what) read = read ≡ Err (line, what)
NotReported TooManyFrames read = (network : Plan) × (read ≡ Ok network) × AirsTooMany network
NotReported NoMemory read = Unit {0}

-- what came of a network: its trace, the verdict and the text
pub record IsOutcome (what : Printed) (o : NetworkOutcome) (network : Plan) : Type 0 where
  pub few : AirsFew network
  pub trace : IsTraceOf (left_of o.trace) (world network)
  pub verdict : IsVerdictOn network (world network) o.late
  pub text : o.text ≡ text_of what (world network) o.late

-- P holds, if the trace is one that a replay of the network may leave
abbrev pub IfReplayed : Trace → Plan → Type 0 → Type 0
IfReplayed trace network P =
    allowance_in trace ≡ allowance_of network → IsTraceOf (left_of trace) (world network)
    → length (left_of trace).air ≤ most_frames → P

-- the trace of a world is left
abbrev pub Leaves : Ran → World → Type 0
Leaves (Replayed trace) w = IsTraceOf (left_of trace) w
Leaves _ w = ⊥

-- the text of a network was written, with the verdict on it, what ran is left, and at each line every end past its retries was told so
pub record Reports (what : Printed) (old new : Option (List ℕ)) (ran : Ran) (network : Plan) (late : Option Late) : Type 0 where
  pub few : AirsFew network
  pub verdict : IsVerdictOn network (world network) late
  pub written : Appends old new (text_of what (world network) late)
  pub left : Leaves ran (world network)
  pub retries : RetriesAreTold network

-- so it was, and nothing came back too late: at each line each circuit user has received exactly a beginning of what its partner
-- wrote, with all that is acknowledged; and mail is stored once between nodes that keep it
abbrev pub ReportsInTime : Printed → Option (List ℕ) → Option (List ℕ) → Ran → Plan → Type 0
ReportsInTime what old new ran network =
    Reports what old new ran network None × SafeThroughout network × MailOnceThroughout network

-- so it was, and something came back too late
abbrev pub ReportsLate : Printed → Option (List ℕ) → Option (List ℕ) → Ran → Plan → Type 0
ReportsLate what old new ran network = (late : Late) × Reports what old new ran network (Some late)

-- a front of the text of a network was written
pub record WritesFront (what : Printed) (old new : Option (List ℕ)) (network : Plan) : Type 0 where
  pub few : AirsFew network
  pub late : Option Late
  pub verdict : IsVerdictOn network (world network) late
  pub written : AppendsFront old new (text_of what (world network) late)

-- What is written and noted of the network of a file, as the two commands that run one share it; how each of them ends is said in `Run`.
pub record NetworkEnds (what : Printed) (bytes : List ℕ) (before after : StreamsTold) (ran : Ran) (status : Status) : Type 0 where
  pub done : status ≡ statuses.Done → IsNetwork bytes (ReportsInTime what before.written after.written ran)
  pub late : status ≡ statuses.TooLate → IsNetwork bytes (ReportsLate what before.written after.written ran)
  pub done_comes : IsNetwork bytes IsInTime → WritesWell before after → Comes statuses.Done status
  pub late_comes : IsNetwork bytes IsLate → WritesWell before after → Comes statuses.TooLate status
  pub too_long : status ≡ statuses.TooLong → IsNetwork bytes AirsTooMany
  pub too_long_comes : IsNetwork bytes AirsTooMany → Comes statuses.TooLong status
  pub bad_file : status ≡ statuses.BadFile → IsBadFile network_of word_for bytes (IsNoted before after)
  pub bad_file_comes : ((bad : Bad) × (network_of bytes ≡ Err bad)) → Comes statuses.BadFile status
  pub write_fault : status ≡ statuses.WriteFault → Rose before.write_faults after.write_faults
  pub write_front : status ≡ statuses.WriteFault → IsNetwork bytes (WritesFront what before.written after.written)
  pub write_same : status ≢ statuses.WriteFault → after.write_faults ≡ before.write_faults
  pub others : (status ≢ statuses.Usage) × (status ≢ statuses.ReadFault)

-- What `replay` reads.

-- a file was read to its end, and it is one of a network of which P holds
abbrev pub ReadsNetwork : StreamsTold → StreamsTold → (Plan → Type 0) → Type 0
ReadsNetwork before after P = ReadsFile before.left after.left (λ bytes. IsNetwork bytes P)
