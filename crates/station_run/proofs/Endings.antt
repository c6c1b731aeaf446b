-- How `run` and `try` end, from how a stream was answered, and where a file has no station.
use Rattle.std.proofs.Common.{◌≡◌, ◌⊎◌, ℕ, List, Bool, inl, inr, refl, length}
use Rattle.std.specs.Prelude.{Option, Contains}
use Rattle.std.specs.List.{AllByRecursion}
use Rattle.cmd_streams.specs.declared.status.Status.{Status}
use Rattle.cmd_streams.specs.declared.status.Status.TheVariants.{Done, Usage, BadFile, ReadFault, WriteFault, TooLong, TooLate, NoMemory}
use Rattle.cmd_streams.specs.Streams.{Read}
use Rattle.cmd_streams.specs.Told.{IsNoted, StreamsTold, read_fault_note, too_long_note}
use Rattle.cmd_streams.specs.Wider.{answers-map, earlier-map, some-map, Wider}
use Rattle.station_cmd.specs.Files.{HasNoStation, IsFileOf, IsNotedAs, IsUnread}
use Rattle.station_file.specs.Station.{Station}
use Rattle.station_file.specs.declared.refusal.Refusal.{Refusal}
use Rattle.station_streams.specs.Ends.{TellerEnds}
use Rattle.station_streams.specs.Telling.{Notes, NotesAnd}
use Rattle.station_run.specs.Ends.{IsStarved, IsUntouched, TryEnds}
use Rattle.station_run.specs.Typing.{IsTried, IsTriedToEnd}

-- ---- a file of no station

unread : (path : List ℕ) (status : Status) (A B : Type 0) (P Q : List ℕ → Type 0) → (A → B) → ((text : List ℕ) → P text → Q text) → IsUnread path status A P → IsUnread path status B Q
unread path ReadFault A B P Q same noted h = noted _ h
unread path TooLong A B P Q same noted h = noted _ h
unread path NoMemory A B P Q same noted h = same h
unread path Done A B P Q same noted h = h
unread path Usage A B P Q same noted h = h
unread path BadFile A B P Q same noted h = h
unread path WriteFault A B P Q same noted h = h
unread path TooLate A B P Q same noted h = h

noted_as : (path : List ℕ) (why : Refusal) (status : Status) (A B : Type 0) (P Q : List ℕ → Type 0) → (A → B) → ((text : List ℕ) → P text → Q text) → IsNotedAs path why status A P → IsNotedAs path why status B Q
noted_as path why BadFile A B P Q same noted h = (h.0, h.1, noted h.0 h.2)
noted_as path why NoMemory A B P Q same noted h = same h
noted_as path why Done A B P Q same noted h = h
noted_as path why Usage A B P Q same noted h = h
noted_as path why ReadFault A B P Q same noted h = h
noted_as path why WriteFault A B P Q same noted h = h
noted_as path why TooLong A B P Q same noted h = h
noted_as path why TooLate A B P Q same noted h = h

-- what is noted is told by more than what was said
pub no_station : (path : List ℕ) (status : Status) (A B : Type 0) (P Q : List ℕ → Type 0) → (A → B) → ((text : List ℕ) → P text → Q text) → HasNoStation path status A P → HasNoStation path status B Q
no_station path status A B P Q same noted (inl missing) = inl (unread path status A B P Q same noted missing)
no_station path status A B P Q same noted (inr was) = inr (was.0, was.1, (was.2.0, was.2.1, noted_as path was.2.0 status A B P Q same noted was.2.2))

pub unread_usage : (path : List ℕ) (status : Status) (A : Type 0) (P : List ℕ → Type 0) → status ≡ Usage → IsUnread path status A P → ⊥
unread_usage path Usage A P e h = h
unread_usage path Done A P e h = absurd (cc e)
unread_usage path BadFile A P e h = absurd (cc e)
unread_usage path ReadFault A P e h = absurd (cc e)
unread_usage path WriteFault A P e h = absurd (cc e)
unread_usage path TooLong A P e h = absurd (cc e)
unread_usage path TooLate A P e h = absurd (cc e)
unread_usage path NoMemory A P e h = absurd (cc e)

noted_usage : (path : List ℕ) (why : Refusal) (status : Status) (A : Type 0) (P : List ℕ → Type 0) → status ≡ Usage → IsNotedAs path why status A P → ⊥
noted_usage path why Usage A P e h = h
noted_usage path why Done A P e h = absurd (cc e)
noted_usage path why BadFile A P e h = absurd (cc e)
noted_usage path why ReadFault A P e h = absurd (cc e)
noted_usage path why WriteFault A P e h = absurd (cc e)
noted_usage path why TooLong A P e h = absurd (cc e)
noted_usage path why TooLate A P e h = absurd (cc e)
noted_usage path why NoMemory A P e h = absurd (cc e)

pub not_usage : (path : List ℕ) (status : Status) (A : Type 0) (P : List ℕ → Type 0) → status ≡ Usage → HasNoStation path status A P → ⊥
not_usage path status A P e (inl missing) = unread_usage path status A P e missing
not_usage path status A P e (inr was) = noted_usage path was.2.0 status A P e was.2.2

-- ---- a stream

abbrev pub Takes : Type 1
Takes = List Read → List ℕ → List (List ℕ) → Type 0

notes : (before after : StreamsTold) (A B : Takes) → ((reads : List Read) (text : List ℕ) (texts : List (List ℕ)) → A reads text texts → B reads text texts) → Wider (Notes A before after) (Notes B before after)
notes before after A B wider reads text n = (n.0, wider reads text n.0 n.1, n.2)

notes_and : (note : List ℕ) (before after : StreamsTold) (A B : Takes) → ((reads : List Read) (text : List ℕ) (texts : List (List ℕ)) → A reads text texts → B reads text texts) → Wider (NotesAnd note A before after) (NotesAnd note B before after)
notes_and note before after A B wider reads text n = (n.0, wider reads text n.0 n.1, n.2)

-- a stream that was answered as one relation says was answered as a wider one says
pub ends_wider : (most : ℕ) (A B : Takes) (E F : Bool → Takes) (moments moments' : Option (List ℕ)) (before after : StreamsTold) (status : Status)
    → ((reads : List Read) (text : List ℕ) (texts : List (List ℕ)) → A reads text texts → B reads text texts)
    → ((over : Bool) (reads : List Read) (text : List ℕ) (texts : List (List ℕ)) → E over reads text texts → F over reads text texts)
    → TellerEnds most A E moments moments' before after status → TellerEnds most B F moments moments' before after status
ends_wider most A B E F moments moments' before after status took ended e =
    record {
      done = λ s. let d = e.done s in (d.0, answers-map most (Notes (E d.0) before after) (Notes (F d.0) before after) _ _ _ _ (notes before after (E d.0) (F d.0) (ended d.0)) d.1, d.2);
      complete = e.complete;
      too_long_comes = e.too_long_comes;
      read_fault = e.read_fault;
      read_answered = λ s. answers-map most (NotesAnd read_fault_note A before after) (NotesAnd read_fault_note B before after) _ _ _ _ (notes_and read_fault_note before after A B took) (e.read_answered s);
      read_same = e.read_same;
      too_long = λ s.
          let t = e.too_long s in
          let n = notes_and too_long_note before after A B took t.0.reads t.0.text t.0.answered in
          (record { reads = t.0.reads; last = t.0.last; text = t.0.text; taken = t.0.taken; fits = t.0.fits; answered = n; written = t.0.written }, t.1);
      write_fault = e.write_fault;
      write_front = λ s. elim (e.write_front s) [
        | inl some ↦ inl (some-map most (Notes A before after) (Notes B before after) _ _ _ _ (notes before after A B took) some)
        | inr some ↦ inr (some.0, some-map most (Notes (E some.0) before after) (Notes (F some.0) before after) _ _ _ _ (notes before after (E some.0) (F some.0) (ended some.0)) some.1)
      ];
      write_same = e.write_same;
      no_memory = λ s. elim (e.no_memory s) [
        | inl some ↦ inl (earlier-map most (Notes A before after) (Notes B before after) _ _ _ _ (notes before after A B took) some)
        | inr all ↦ inr (answers-map most (Notes A before after) (Notes B before after) _ _ _ _ (notes before after A B took) all)
      ];
      others = e.others;
    }

-- ---- what was tried

pub tried_or_starved : (files : List Station) (paths : List (List ℕ)) (moments moments' : Option (List ℕ)) (before after : StreamsTold) (status : Status)
    → AllByRecursion IsFileOf files → length files ≡ length paths
    → IsStarved moments moments' before after status ⊎ TellerEnds 4096 (IsTried files) (IsTriedToEnd files) moments moments' before after status
    → TryEnds paths moments moments' before after status
tried_or_starved files paths moments moments' before after status are many (inl starved) = inr (inl starved)
tried_or_starved files paths moments moments' before after status are many (inr ends) = inr (inr (files, are, many, ends))

-- what is said of the notes of a command that only notes is said of all its streams
pub untried : (paths : List (List ℕ)) (moments : Option (List ℕ)) (before after : StreamsTold) (Same : Type 0) (Noted : List ℕ → Type 0) (status : Status)
    → IsUntouched moments moments before after → (Same → after ≡ before) → ((text : List ℕ) → Noted text → IsNoted before after text)
    → ((status ≡ NoMemory) × Same) ⊎ ((path : List ℕ) × Contains paths path × HasNoStation path status Same Noted)
    → TryEnds paths moments moments before after status
untried paths moments before after Same Noted status untouched same noted (inl starved) =
    inr (inl (record { starved = starved.0; same = same starved.1; timeless = refl }))
untried paths moments before after Same Noted status untouched same noted (inr lacks) =
    inl (lacks.0, lacks.1, (no_station lacks.0 status Same (after ≡ before) Noted (IsNoted before after) same noted lacks.2, untouched))
