-- Why the last read wasn't answered is why the stream wasn't.
use Rattle.std.proofs.Common.{◌≡◌, ◌++◌, ◌∷◌, ◌∙◌, ◌≤◌, [], ℕ, List, length, inl, inr}
use Rattle.std.specs.Prelude.{Bool, Option}
use Rattle.std.specs.Io.KnownBytes.{Appends}
use Rattle.cmd_streams.proofs.StreamReads.{front-behind}
use Rattle.cmd_streams.specs.Streams.{Answers, Input, Read, Takes, bytes_of, max_stream}
use Rattle.cmd_streams.specs.Told.{Says, StreamsTold}
use Rattle.station_streams.proofs.Saying.{says-more}
use Rattle.station_streams.specs.Stopping.{WhyStopped, WhyUnwritten}
use Rattle.station_streams.specs.Telling.{Notes, SaysEach}
use Rattle.station_streams.specs.declared.reads.StreamStop.{StreamStop}
use Rattle.station_streams.specs.declared.reads.StreamStop.TheVariants.{ReadFault, WriteFault, TooLong, NoMemory}

-- a read was taken, whatever came before
abbrev pub Takes_one : (T : Type 0) → (T → T → List Read → List ℕ → List (List ℕ) → Type 0) → T → T → Read → List ℕ → List ℕ → Type 0
Takes_one T took t t' read more note =
    (first : T) (reads : List Read) (text : List ℕ) (texts : List (List ℕ)) → took first t reads text texts
    → took first t' (reads ++ read ∷ []) (text ++ more) (texts ++ note ∷ [])

abbrev pub Told : (T : Type 0) → (T → T → List Read → List ℕ → List (List ℕ) → Type 0) → T → List Read → List ℕ → List (List ℕ) → Type 0
Told T took first = λ reads text texts. (last : T) × took first last reads text texts

pub unanswered : (T : Type 0) (took : T → T → List Read → List ℕ → List (List ℕ) → Type 0) (Whole : Bool → List Read → List ℕ → Type 0) (t0 t t' : T) (most : ℕ) (before after : Input) (from to : StreamsTold) (mid : Option (List ℕ)) (between : ℕ) (w w' w'' : Option (List ℕ)) (reads : List Read) (last : Read) (text : List ℕ) (texts : List (List ℕ)) (r r' n n' n'' : ℕ) (e : StreamStop)
    → Takes most before after (reads ++ last ∷ []) → length (bytes_of reads) ≤ max_stream → length (bytes_of (reads ++ last ∷ [])) ≤ max_stream
    → took t0 t reads text texts → SaysEach from.notes mid from.note_faults between texts → Appends w w' text → r' ≡ r → n' ≡ n
    → WhyUnwritten (λ more. (note : List ℕ) × Says mid to.notes between to.note_faults note × Takes_one T took t t' last more note) ((to.notes ≡ mid) × (to.note_faults ≡ between)) w' w'' n' n'' e
    → WhyStopped most (Notes (Told T took t0) from to) Whole before after w w'' r r' n n'' e
unanswered T took Whole t0 t t' most before after from to mid between w w' w'' reads last text texts r r' n n' n'' WriteFault taken few fits had said written rs ns why = (
  inl (record {
    reads = reads ++ last ∷ [];
    text = text ++ why.0.0;
    taken = taken;
    fits = fits;
    answered = (texts ++ why.0.1.0 ∷ [], (t', why.0.1.2 t0 reads text texts had), says-more from.notes mid to.notes from.note_faults between to.note_faults texts why.0.1.0 said why.0.1.1);
    front = front-behind w w' w'' text why.0.0 written why.0.2;
  }),
  rw (← ns) why.1,
  rs,
)
unanswered T took Whole t0 t t' most before after from to mid between w w' w'' reads last text texts r r' n n' n'' NoMemory taken few fits had said written rs ns why = (
  inl (record { reads = reads; last = last; text = text; taken = taken; fits = few; answered = (texts, (t, had), rw (why.2.0, why.2.1) said); written = rw why.0 written }),
  rs,
  why.1 ∙ ns,
)
unanswered T took Whole t0 t t' most before after from to mid between w w' w'' reads last text texts r r' n n' n'' ReadFault taken few fits had said written rs ns why = absurd why
unanswered T took Whole t0 t t' most before after from to mid between w w' w'' reads last text texts r r' n n' n'' TooLong taken few fits had said written rs ns why = absurd why

-- and so it is where the end wasn't answered
pub unended : (T : Type 0) (took : T → T → List Read → List ℕ → List (List ℕ) → Type 0) (ended : T → T → Bool → List Read → List ℕ → List (List ℕ) → Type 0) (t0 t t' : T) (over : Bool) (most : ℕ) (before after : Input) (from middle to : StreamsTold) (w w' w'' : Option (List ℕ)) (r r' n n' n'' : ℕ) (e : StreamStop)
    → Answers most (Notes (took t0 t) from middle) before after w w' → r' ≡ r → n' ≡ n
    → WhyUnwritten (λ more. (note : List ℕ) × Says middle.notes to.notes middle.note_faults to.note_faults note × ((first : T) (reads : List Read) (text : List ℕ) (texts : List (List ℕ)) → took first t reads text texts → ended first t' over reads (text ++ more) (texts ++ note ∷ []))) ((to.notes ≡ middle.notes) × (to.note_faults ≡ middle.note_faults)) w' w'' n' n'' e
    → WhyStopped most (Notes (Told T took t0) from to) (λ last_over. Notes (λ reads text texts. (last : T) × ended t0 last last_over reads text texts) from to) before after w w'' r r' n n'' e
unended T took ended t0 t t' over most before after from middle to w w' w'' r r' n n' n'' WriteFault a rs ns why = (
  inr (
    over,
    record {
      reads = a.reads;
      text = a.text ++ why.0.0;
      taken = a.taken;
      fits = a.fits;
      answered = (a.answered.0 ++ why.0.1.0 ∷ [], (t', why.0.1.2 t0 a.reads a.text a.answered.0 a.answered.1), says-more from.notes middle.notes to.notes from.note_faults middle.note_faults to.note_faults a.answered.0 why.0.1.0 a.answered.2 why.0.1.1);
      front = front-behind w w' w'' a.text why.0.0 a.written why.0.2;
    },
  ),
  rw (← ns) why.1,
  rs,
)
unended T took ended t0 t t' over most before after from middle to w w' w'' r r' n n' n'' NoMemory a rs ns why = (
  inr (record { reads = a.reads; text = a.text; taken = a.taken; fits = a.fits; answered = (a.answered.0, (t, a.answered.1), rw (why.2.0, why.2.1) a.answered.2); written = rw why.0 a.written }),
  rs,
  why.1 ∙ ns,
)
unended T took ended t0 t t' over most before after from middle to w w' w'' r r' n n' n'' ReadFault a rs ns why = absurd why
unended T took ended t0 t t' over most before after from middle to w w' w'' r r' n n' n'' TooLong a rs ns why = absurd why
