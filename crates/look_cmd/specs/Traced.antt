-- What `trace` writes of a network.
use Rattle.std.specs.Prelude.{ℕ, ◌≡◌, ◌≢◌, List, Option, Some, None, Result, Ok, Err}
use Rattle.std.specs.Io.KnownBytes.{Appends}
use Rattle.radio_base.specs.Causes.{Rose}
use Rattle.circuit_verdict.specs.declared.late.Late.{Late}
use Rattle.cmd_streams.specs.declared.status.Status.{Status}
use Rattle.cmd_streams.specs.declared.status.Status.TheVariants as statuses
use Rattle.cmd_streams.specs.Told.{StreamsTold, AppendsFront, Comes, WritesWell, IsBadFile, IsNoted}
use Rattle.cmd_streams.specs.Reading.{ReadsFile}
use Rattle.network_file.specs.Networks.{Bad, network_of, word_for}
use Rattle.network_file.specs.Plan.{Plan}
use Rattle.net_verdict.specs.declared.causes.LateCause.{LateCause}
use Rattle.net_model.specs.declared.trace.Trace.{Trace}
use Rattle.net_verdict.specs.Causes.{IsCauseOf}
use Rattle.net_model.specs.Circuits.{IsVerdictOn, allowance_of, AirsFew, AirsTooMany, IsInTime, IsLate, IsNetwork}
use Rattle.net_model.specs.Lines.{world}
use Rattle.net_model.specs.Standing.{IsTraceOf}
use Rattle.net_model.specs.Traces.{allowance_in, left_of}
use Rattle.look_cmd.specs.declared.traces.TraceRefusal.{TraceRefusal}
use Rattle.look_cmd.specs.declared.traces.TraceRefusal.TheVariants.{BadLine, TooManyFrames, NoMemory}
use Rattle.trace_lines.specs.Texts.{trace_text}

-- P holds, if the trace has the allowance of the network and stands for its world
abbrev pub IfTraceOf : Trace → Plan → Type 0 → Type 0
IfTraceOf trace network P = allowance_in trace ≡ allowance_of network → IsTraceOf (left_of trace) (world network) → P

-- the text is the trace of the network of that file, with the verdict on it and its cause
pub record IsTraced (file text : List ℕ) (late : Option Late) (network : Plan) : Type 0 where
  pub few : AirsFew network
  pub verdict : IsVerdictOn network (world network) late
  pub cause : Option LateCause
  pub caused : IsCauseOf network (world network) late cause
  pub text_is : text ≡ trace_text file network (world network) late cause

-- why there is nothing to write: a bad line, too many frames, or want of memory
abbrev pub NotTraced : TraceRefusal → Result Plan Bad → Type 0
NotTraced (BadLine line what) read = read ≡ Err (line, what)
NotTraced TooManyFrames read = (network : Plan) × (read ≡ Ok network) × AirsTooMany network
NotTraced NoMemory read = Unit {0}

-- the trace of the network of that file was written, with this verdict
abbrev pub Traces : List ℕ → Option (List ℕ) → Option (List ℕ) → Option Late → Plan → Type 0
Traces file old new late network = (text : List ℕ) × IsTraced file text late network × Appends old new text

abbrev pub TracesInTime : List ℕ → Option (List ℕ) → Option (List ℕ) → Plan → Type 0
TracesInTime file old new network = Traces file old new None network

abbrev pub TracesLate : List ℕ → Option (List ℕ) → Option (List ℕ) → Plan → Type 0
TracesLate file old new network = (late : Late) × Traces file old new (Some late) network

-- a front of it was written
abbrev pub WritesFront : List ℕ → Option (List ℕ) → Option (List ℕ) → Plan → Type 0
WritesFront file old new network =
    (late : Option Late) × (text : List ℕ) × IsTraced file text late network × AppendsFront old new text

-- a file was read to its end, and it is one of a network of which P holds, which is told of the file too
abbrev pub ReadsNetwork : StreamsTold → StreamsTold → (List ℕ → Plan → Type 0) → Type 0
ReadsNetwork before after P = ReadsFile before.left after.left (λ bytes. IsNetwork bytes (P bytes))

-- What is written and noted of the network of a file; how the command ends is said in `Look`.
pub record TracedEnds (file : List ℕ) (before after : StreamsTold) (status : Status) : Type 0 where
  pub done : status ≡ statuses.Done → IsNetwork file (TracesInTime file before.written after.written)
  pub late : status ≡ statuses.TooLate → IsNetwork file (TracesLate file before.written after.written)
  pub done_comes : IsNetwork file IsInTime → WritesWell before after → Comes statuses.Done status
  pub late_comes : IsNetwork file IsLate → WritesWell before after → Comes statuses.TooLate status
  pub too_long : status ≡ statuses.TooLong → IsNetwork file AirsTooMany
  pub too_long_comes : IsNetwork file AirsTooMany → Comes statuses.TooLong status
  pub bad_file : status ≡ statuses.BadFile → IsBadFile network_of word_for file (IsNoted before after)
  pub bad_file_comes : ((bad : Bad) × (network_of file ≡ Err bad)) → Comes statuses.BadFile status
  pub write_fault : status ≡ statuses.WriteFault → Rose before.write_faults after.write_faults
  pub write_front : status ≡ statuses.WriteFault → IsNetwork file (WritesFront file before.written after.written)
  pub write_same : status ≢ statuses.WriteFault → after.write_faults ≡ before.write_faults
  pub others : (status ≢ statuses.Usage) × (status ≢ statuses.ReadFault)
