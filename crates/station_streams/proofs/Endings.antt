-- How a stream ends where it was refused.
use Rattle.std.proofs.Common.{◌≡◌, ◌<◌, ℕ, List, arith, ap, inl, inr, length, length-append}
use Rattle.std.specs.Prelude.{Bool, Option, Some, None}
use Rattle.std.specs.Io.KnownBytes.{Consumes}
use Rattle.radio_base.specs.Causes.{Rose}
use Rattle.cmd_streams.specs.StreamEnds.{input_at}
use Rattle.cmd_streams.specs.Streams.{Answers, AnswersUntilTooLong, Read, TellsStream, max_stream}
use Rattle.cmd_streams.specs.Told.{Says, StreamsTold, read_fault_note, too_long_note}
use Rattle.cmd_streams.specs.declared.status.Status.{Status}
use Rattle.cmd_streams.specs.declared.status.Status.TheVariants.{ReadFault, TooLong}
use Rattle.station_streams.proofs.Saying.{says-more}
use Rattle.station_streams.specs.Ends.{TellerEnds}
use Rattle.station_streams.specs.Telling.{Notes}

module _ (most : ℕ) (Took : List Read → List ℕ → List (List ℕ) → Type 0) (Ended : Bool → List Read → List ℕ → List (List ℕ) → Type 0) (moments moments' : Option (List ℕ)) (before middle after : StreamsTold) (status : Status) where
  -- a read failed
  pub by_fault : status ≡ ReadFault → Answers most (Notes Took before middle) (input_at moments before) (input_at moments' after) before.written after.written → Rose before.read_faults after.read_faults → after.write_faults ≡ before.write_faults → Says middle.notes after.notes middle.note_faults after.note_faults read_fault_note → TellerEnds most Took Ended moments moments' before after status
  by_fault is a rose same says =
      record {
        done = λ s. absurd (cc (is, s));
        complete = λ _ reads _. absurd (reads rose);
        too_long_comes = λ _ reads _. absurd (reads rose);
        read_fault = λ _. rose;
        read_answered = λ _. record { reads = a.reads; text = a.text; taken = a.taken; fits = a.fits; answered = (a.answered.0, a.answered.1, says-more _ _ _ _ _ _ a.answered.0 read_fault_note a.answered.2 says); written = a.written };
        read_same = λ other. absurd (other is);
        too_long = λ s. absurd (cc (is, s));
        write_fault = λ s. absurd (cc (is, s));
        write_front = λ s. absurd (cc (is, s));
        write_same = λ _. same;
        no_memory = λ s. absurd (cc (is, s));
        others = (λ s. absurd (cc (is, s)), λ s. absurd (cc (is, s)), λ s. absurd (cc (is, s)));
      }

-- more bytes were read than a short stream has
too_many : (a b : Option (List ℕ)) (bytes : List ℕ) → Consumes a b bytes → max_stream < length bytes → TellsStream a → ⊥
too_many None b bytes c many tells = tells
too_many (Some xs) None bytes c many tells = c
too_many (Some xs) (Some ys) bytes c many tells = omega (arith, many, tells, ap length c, length-append bytes ys)

module _ (most : ℕ) (Took : List Read → List ℕ → List (List ℕ) → Type 0) (Ended : Bool → List Read → List ℕ → List (List ℕ) → Type 0) (moments moments' : Option (List ℕ)) (before middle after : StreamsTold) (status : Status) where
  -- it was too long
  pub by_length : status ≡ TooLong → AnswersUntilTooLong most (Notes Took before middle) (input_at moments before) (input_at moments' after) before.written after.written → after.read_faults ≡ before.read_faults → after.write_faults ≡ before.write_faults → Says middle.notes after.notes middle.note_faults after.note_faults too_long_note → TellerEnds most Took Ended moments moments' before after status
  by_length is long reads_same same says =
      let a = long.0 in
      record {
        done = λ s. absurd (cc (is, s));
        complete = λ tells _ _. absurd (too_many before.left after.left _ a.taken.bytes long.1 tells);
        too_long_comes = λ _ _ _. inr (inl is);
        read_fault = λ s. absurd (cc (is, s));
        read_answered = λ s. absurd (cc (is, s));
        read_same = λ _. reads_same;
        too_long = λ _. (record { reads = a.reads; last = a.last; text = a.text; taken = a.taken; fits = a.fits; answered = (a.answered.0, a.answered.1, says-more _ _ _ _ _ _ a.answered.0 too_long_note a.answered.2 says); written = a.written }, long.1);
        write_fault = λ s. absurd (cc (is, s));
        write_front = λ s. absurd (cc (is, s));
        write_same = λ _. same;
        no_memory = λ s. absurd (cc (is, s));
        others = (λ s. absurd (cc (is, s)), λ s. absurd (cc (is, s)), λ s. absurd (cc (is, s)));
      }
