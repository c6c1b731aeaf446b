-- How each command ends.
use Rattle.std.specs.Prelude.{ℕ, ◌≡◌, ◌≢◌, ◌⊎◌, List, [], Option, None}
use Rattle.radio_base.specs.Causes.{Rose}
use Rattle.cmd_streams.specs.declared.status.Status.{Status}
use Rattle.cmd_streams.specs.declared.status.Status.TheVariants.{Done, Usage, BadFile, ReadFault, WriteFault, TooLong, TooLate}
use Rattle.cmd_streams.specs.Reading.{ReadsFew, ReadsTooMuch, TellsTooMuch}
use Rattle.cmd_streams.specs.StreamEnds.{StreamEnds}
use Rattle.cmd_streams.specs.Streams.{Read, bytes_of}
use Rattle.cmd_streams.specs.Told.{StreamsTold, Comes, ReadsBadFile, ReadsWell, TellsBadFile, TellsGoodFile, WritesWell, IsNoted}
use Rattle.radio_base.specs.declared.modulus.LinkModulus.{LinkModulus}
use Rattle.frame_lines.specs.Hearing.{Listening, by_items}
use Rattle.kiss_framing.specs.Stream.{items}
use Rattle.network_file.specs.Networks.{network_of, word_for}
use Rattle.net_model.specs.Circuits.{AirsTooMany, IsInTime, IsLate}
use Rattle.look_cmd.specs.Traced.{ReadsNetwork, TracesInTime, TracesLate, WritesFront}

-- a listener that has heard nothing
abbrev pub silent : Option LinkModulus → Listening
silent m = record { modulus = m; extended = [] }

-- the text has the lines of what these reads brought
abbrev pub HearsReads : Option LinkModulus → List Read → List ℕ → Type 0
HearsReads m reads text = text ≡ (by_items (silent m) (items (bytes_of reads))).1

-- `listen`: at most 16,384 bytes are read at a time, and no clock is asked
abbrev pub ListenEnds : Option LinkModulus → StreamsTold → StreamsTold → Status → Type 0
ListenEnds m before after status = StreamEnds 16384 (HearsReads m) None None before after status

-- `trace`
pub record TraceEnds (before after : StreamsTold) (status : Status) : Type 0 where
  -- Where it is done, the bytes read are a network's file, and the bytes written are the trace of that network. Where it is too late, the
  -- same: the verdict names the first line at which something came back too late, and the cause by what that shows.
  pub done : status ≡ Done → ReadsNetwork before after (λ file. TracesInTime file before.written after.written)
  pub late : status ≡ TooLate → ReadsNetwork before after (λ file. TracesLate file before.written after.written)
  -- A good file is done, or too late, exactly by its verdict, but for faults and want of memory.
  pub done_comes : TellsGoodFile network_of IsInTime before.left → ReadsWell before after → WritesWell before after → Comes Done status
  pub late_comes : TellsGoodFile network_of IsLate before.left → ReadsWell before after → WritesWell before after → Comes TooLate status
  -- A read fault comes only where the source's count rose, before a file was too long. Elsewhere the count stays.
  pub read_fault : status ≡ ReadFault → Rose before.read_faults after.read_faults
  pub read_few : status ≡ ReadFault → ReadsFew before.left after.left
  pub read_same : status ≢ ReadFault → after.read_faults ≡ before.read_faults
  -- It is too long exactly where more bytes were read than a file may have, or where a good file would put one more frame
  -- in the air than may be there.
  pub too_long : status ≡ TooLong → ReadsTooMuch before.left after.left ⊎ ReadsNetwork before after (λ _. AirsTooMany)
  pub too_long_comes : TellsTooMuch before.left ⊎ TellsGoodFile network_of AirsTooMany before.left
      → ReadsWell before after → Comes TooLong status
  -- A file is bad exactly where it was read to its end and has a first bad line, which the note names.
  pub bad_file : status ≡ BadFile → ReadsBadFile network_of word_for before after (IsNoted before after)
  pub bad_file_comes : TellsBadFile network_of before.left → ReadsWell before after → Comes BadFile status
  -- A write fault comes only where the sink's count rose, behind a front of the trace. Elsewhere the count stays.
  pub write_fault : status ≡ WriteFault → Rose before.write_faults after.write_faults
  pub write_front : status ≡ WriteFault
      → ReadsNetwork before after (λ file. WritesFront file before.written after.written)
  pub write_same : status ≢ WriteFault → after.write_faults ≡ before.write_faults
  -- No other status comes.
  pub others : status ≢ Usage
