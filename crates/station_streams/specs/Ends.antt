-- How a command ends that answers a stream and tells of it, read by read. Own profile.
use Rattle.std.specs.Prelude.{ℕ, ◌≡◌, ◌≢◌, ◌⊎◌, List, Option, Bool, IsTrue}
use Rattle.std.specs.Io.KnownBytes.{IsAtEnd}
use Rattle.radio_base.specs.Causes.{Rose}
use Rattle.cmd_streams.specs.declared.status.Status.{Status}
use Rattle.cmd_streams.specs.declared.status.Status.TheVariants.{Done, Usage, BadFile, ReadFault, WriteFault, TooLong, TooLate, NoMemory}
use Rattle.cmd_streams.specs.StreamEnds.{input_at}
use Rattle.cmd_streams.specs.Streams.{Read, Answers, AnswersEarlier, AnswersSome, AnswersUntilTooLong, TellsStream, TellsLongStream}
use Rattle.cmd_streams.specs.Told.{StreamsTold, read_fault_note, too_long_note}
use Rattle.station_streams.specs.Telling.{Notes, NotesAnd}

-- `most` is how many bytes are read at a time at most. `Took reads text texts` says that the text is the answer to the reads, and that the
-- others are told of them; `Ended over reads text texts` says so of them and of the end, which came once no more was wanted, where it is
-- `over`.
pub record TellerEnds (most : ℕ) (Took : List Read → List ℕ → List (List ℕ) → Type 0) (Ended : Bool → List Read → List ℕ → List (List ℕ) → Type 0) (moments moments' : Option (List ℕ)) (before after : StreamsTold) (status : Status) : Type 0 where
  -- Where it is done, the stream was read to its end, or until no more was wanted, and what was written and noted is the answer to what
  -- was read, and what is told of it.
  pub done : status ≡ Done → (over : Bool)
      × Answers most (Notes (Ended over) before after) (input_at moments before) (input_at moments' after) before.written after.written
      × (IsTrue over ⊎ IsAtEnd after.left)
  -- So it is of a stream that isn't too long, but for faults and want of memory; one that is too long ends so, where no less was wanted.
  pub complete : TellsStream before.left → ¬ Rose before.read_faults after.read_faults → ¬ Rose before.write_faults after.write_faults
      → (status ≡ Done) ⊎ (status ≡ NoMemory)
  pub too_long_comes : TellsLongStream before.left → ¬ Rose before.read_faults after.read_faults
      → ¬ Rose before.write_faults after.write_faults → (status ≡ Done) ⊎ ((status ≡ TooLong) ⊎ (status ≡ NoMemory))
  -- A read fault comes only where the source's count rose; what the earlier reads brought was written and noted, and then the fault.
  pub read_fault : status ≡ ReadFault → Rose before.read_faults after.read_faults
  pub read_answered : status ≡ ReadFault → Answers most (NotesAnd read_fault_note Took before after)
      (input_at moments before) (input_at moments' after) before.written after.written
  pub read_same : status ≢ ReadFault → after.read_faults ≡ before.read_faults
  -- It is too long where a read brings byte 2^32; what the earlier reads brought was written and noted, and then that.
  pub too_long : status ≡ TooLong → AnswersUntilTooLong most (NotesAnd too_long_note Took before after)
      (input_at moments before) (input_at moments' after) before.written after.written
  -- A write fault comes only where the sink's count rose, behind a front of the answer to what was read, or to that and the end.
  pub write_fault : status ≡ WriteFault → Rose before.write_faults after.write_faults
  pub write_front : status ≡ WriteFault →
      AnswersSome most (Notes Took before after) (input_at moments before) (input_at moments' after) before.written after.written
      ⊎ ((over : Bool) × AnswersSome most (Notes (Ended over) before after)
      (input_at moments before) (input_at moments' after) before.written after.written)
  pub write_same : status ≢ WriteFault → after.write_faults ≡ before.write_faults
  -- Where memory runs out, exactly what the reads before the last brought was written and noted, or all but the end.
  pub no_memory : status ≡ NoMemory →
      AnswersEarlier most (Notes Took before after) (input_at moments before) (input_at moments' after) before.written after.written
      ⊎ Answers most (Notes Took before after) (input_at moments before) (input_at moments' after) before.written after.written
  -- No other status comes.
  pub others : (status ≢ Usage) × (status ≢ BadFile) × (status ≢ TooLate)
