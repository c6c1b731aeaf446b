-- How a command ends that answers a stream read by read. Own profile.
use Rattle.std.specs.Prelude.{ℕ, ◌≡◌, ◌≢◌, ◌⊎◌, List, Option}
use Rattle.radio_base.specs.Causes.{Rose}
use Rattle.cmd_streams.specs.declared.status.Status.{Status}
use Rattle.cmd_streams.specs.declared.status.Status.TheVariants.{Done, Usage, BadFile, ReadFault, WriteFault, TooLong, TooLate, NoMemory}
use Rattle.cmd_streams.specs.Told.{StreamsTold}
use Rattle.cmd_streams.specs.Streams.{Read, Input, input_of, Answers, AnswersAll, AnswersEarlier, AnswersUntilTooLong, AnswersSome, TellsStream, TellsLongStream}

-- where the stream comes in, with the moments that its clock tells
abbrev pub input_at : Option (List ℕ) → StreamsTold → Input
input_at moments t = input_of t.left t.reads moments

-- `most` is how many bytes are read at a time at most; `Answered reads text` says that the text is the answer to the reads.
pub record StreamEnds (most : ℕ) (Answered : List Read → List ℕ → Type 0) (moments moments' : Option (List ℕ)) (before after : StreamsTold) (status : Status) : Type 0 where
  -- Where it is done, the whole stream was read, and the bytes written are the answer to it. A stream that isn't too long is
  -- done but for faults and want of memory.
  pub done : status ≡ Done → AnswersAll most Answered (input_at moments before) (input_at moments' after) before.written after.written
  pub complete : TellsStream before.left → ¬ Rose before.read_faults after.read_faults → ¬ Rose before.write_faults after.write_faults → (status ≡ Done) ⊎ (status ≡ NoMemory)
  -- A read fault comes only where the source's count rose; the answer to the earlier reads was written.
  pub read_fault : status ≡ ReadFault → Rose before.read_faults after.read_faults
  pub read_answered : status ≡ ReadFault → Answers most Answered (input_at moments before) (input_at moments' after) before.written after.written
  pub read_same : status ≢ ReadFault → after.read_faults ≡ before.read_faults
  -- It is too long where a read brings byte 2^32; exactly the answer to the earlier reads was written.
  pub too_long : status ≡ TooLong → AnswersUntilTooLong most Answered (input_at moments before) (input_at moments' after) before.written after.written
  pub too_long_comes : TellsLongStream before.left → ¬ Rose before.read_faults after.read_faults → ¬ Rose before.write_faults after.write_faults → (status ≡ TooLong) ⊎ (status ≡ NoMemory)
  -- A write fault comes only where the sink's count rose, behind a front of the answer to what was read.
  pub write_fault : status ≡ WriteFault → Rose before.write_faults after.write_faults
  pub write_front : status ≡ WriteFault → AnswersSome most Answered (input_at moments before) (input_at moments' after) before.written after.written
  pub write_same : status ≢ WriteFault → after.write_faults ≡ before.write_faults
  -- Where memory runs out, exactly the answer to the reads before the last was written.
  pub no_memory : status ≡ NoMemory → AnswersEarlier most Answered (input_at moments before) (input_at moments' after) before.written after.written
  -- No other status comes.
  pub others : (status ≢ Usage) × (status ≢ BadFile) × (status ≢ TooLate)
