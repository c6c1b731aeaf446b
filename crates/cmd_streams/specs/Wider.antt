-- A stream that was answered as one relation says was answered as a wider one says.
-- No public clause cites it: not for the reader of a contract.
use Rattle.std.proofs.Common.{ℕ, List}
use Rattle.std.specs.Prelude.{Option}
use Rattle.cmd_streams.specs.declared.status.Status.{Status}
use Rattle.cmd_streams.specs.Told.{StreamsTold}
use Rattle.cmd_streams.specs.Streams.{Read, Input, Answers, AnswersEarlier, AnswersSome}
use Rattle.cmd_streams.specs.StreamEnds.{StreamEnds}

-- a wider relation of reads and their answers
abbrev pub Wider : (List Read → List ℕ → Type 0) → (List Read → List ℕ → Type 0) → Type 0
Wider A B = (reads : List Read) (text : List ℕ) → A reads text → B reads text

pub answers-map : (most : ℕ) (A B : List Read → List ℕ → Type 0) (before after : Input) (out out' : Option (List ℕ)) → Wider A B → Answers most A before after out out' → Answers most B before after out out'
answers-map most A B before after out out' wider a =
    record { reads = a.reads; text = a.text; taken = a.taken; fits = a.fits; answered = wider a.reads a.text a.answered; written = a.written }

pub earlier-map : (most : ℕ) (A B : List Read → List ℕ → Type 0) (before after : Input) (out out' : Option (List ℕ)) → Wider A B → AnswersEarlier most A before after out out' → AnswersEarlier most B before after out out'
earlier-map most A B before after out out' wider a =
    record { reads = a.reads; last = a.last; text = a.text; taken = a.taken; fits = a.fits; answered = wider a.reads a.text a.answered; written = a.written }

pub some-map : (most : ℕ) (A B : List Read → List ℕ → Type 0) (before after : Input) (out out' : Option (List ℕ)) → Wider A B → AnswersSome most A before after out out' → AnswersSome most B before after out out'
some-map most A B before after out out' wider a =
    record { reads = a.reads; text = a.text; taken = a.taken; fits = a.fits; answered = wider a.reads a.text a.answered; front = a.front }

pub ends-map : (most : ℕ) (A B : List Read → List ℕ → Type 0) (moments moments' : Option (List ℕ)) (before after : StreamsTold) (status : Status) → Wider A B → StreamEnds most A moments moments' before after status → StreamEnds most B moments moments' before after status
unfolding earlier-map
ends-map most A B moments moments' before after status wider e =
    record {
      done = λ s. (answers-map _ A B _ _ _ _ wider (e.done s).0, (e.done s).1);
      complete = e.complete;
      read_fault = e.read_fault;
      read_answered = λ s. answers-map _ A B _ _ _ _ wider (e.read_answered s);
      read_same = e.read_same;
      too_long = λ s. (earlier-map _ A B _ _ _ _ wider (e.too_long s).0, (e.too_long s).1);
      too_long_comes = e.too_long_comes;
      write_fault = e.write_fault;
      write_front = λ s. some-map _ A B _ _ _ _ wider (e.write_front s);
      write_same = e.write_same;
      no_memory = λ s. earlier-map _ A B _ _ _ _ wider (e.no_memory s);
      others = e.others;
    }
