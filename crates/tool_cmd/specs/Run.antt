-- How each command ends.
use Rattle.std.specs.Prelude.{ℕ, ◌≡◌, ◌≢◌, None}
use Rattle.std.specs.Io.KnownBytes.{Appends}
use Rattle.radio_base.specs.Causes.{Rose}
use Rattle.cmd_streams.specs.declared.status.Status.{Status}
use Rattle.cmd_streams.specs.declared.status.Status.TheVariants.{Done, Usage, BadFile, ReadFault, WriteFault, TooLong, TooLate}
use Rattle.cmd_streams.specs.Told.{Comes, ReadsBadFile, ReadsWell, TellsBadFile, WritesWell, StreamsTold, IsNoted, AppendsFront}
use Rattle.cmd_streams.specs.Reading.{ReadsFew, ReadsTooMuch, TellsTooMuch}
use Rattle.cmd_streams.specs.StreamEnds.{StreamEnds}
use Rattle.ax_ip.specs.Machine.{State}
use Rattle.link_life.specs.Lines.{script_of}
use Rattle.link_life.specs.Reports.{word_for}
use Rattle.tool_cmd.specs.declared.lives.settings.LifeSettings.{LifeSettings}
use Rattle.tool_cmd.specs.Frames.{ListsReads}
use Rattle.tool_cmd.specs.Gateways.{ForwardsReads}
use Rattle.tool_cmd.specs.Lives.{ReadsScript, TellsScript, report_of}

-- `frames`, with sequence numbers of that modulus: at most 16,384 bytes are read at a time, and no clock is asked
abbrev pub FramesEnd : ℕ → StreamsTold → StreamsTold → Status → Type 0
FramesEnd size before after status = StreamEnds 16384 (ListsReads size) None None before after status

-- `ip`, of a gateway that begins so: at most 4,096 bytes are read at a time, and no clock is asked
abbrev pub IpEnds : State → StreamsTold → StreamsTold → Status → Type 0
IpEnds start before after status = StreamEnds 4096 (ForwardsReads start) None None before after status

-- `life` by these settings
pub record LifeEnds (s : LifeSettings) (before after : StreamsTold) (status : Status) : Type 0 where
  -- Where it is done, the bytes read are a script, and the bytes written are the report of its life. A script is done but for faults and
  -- want of memory.
  pub done : status ≡ Done → ReadsScript before after (λ acts. Appends before.written after.written (report_of s acts))
  pub complete : TellsScript before.left → ReadsWell before after → WritesWell before after → Comes Done status
  -- A read fault comes only where the source's count rose, before a file was too long. Elsewhere the count stays.
  pub read_fault : status ≡ ReadFault → Rose before.read_faults after.read_faults
  pub read_few : status ≡ ReadFault → ReadsFew before.left after.left
  pub read_same : status ≢ ReadFault → after.read_faults ≡ before.read_faults
  -- It is too long exactly where more bytes were read than a file may have.
  pub too_long : status ≡ TooLong → ReadsTooMuch before.left after.left
  pub too_long_comes : TellsTooMuch before.left → ReadsWell before after → Comes TooLong status
  -- A script is bad exactly where it was read to its end and has a first bad line, which the note names.
  pub bad_file : status ≡ BadFile → ReadsBadFile script_of word_for before after (IsNoted before after)
  pub bad_file_comes : TellsBadFile script_of before.left → ReadsWell before after → Comes BadFile status
  -- A write fault comes only where the sink's count rose, behind a front of the report. Elsewhere the count stays.
  pub write_fault : status ≡ WriteFault → Rose before.write_faults after.write_faults
  pub write_front : status ≡ WriteFault
      → ReadsScript before after (λ acts. AppendsFront before.written after.written (report_of s acts))
  pub write_same : status ≢ WriteFault → after.write_faults ≡ before.write_faults
  -- No other status comes.
  pub others : (status ≢ Usage) × (status ≢ TooLate)
