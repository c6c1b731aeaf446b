-- Events one after another.
use Rattle.std.proofs.Common.{◌≡◌, ◌+◌, ◌∙◌, ℕ, suc, refl, ap, arith, append_assoc, List, [], ◌∷◌, ◌++◌}
use Rattle.std.specs.Prelude.{true, false, Option, Some, None, is_some}
use Rattle.ax_address.specs.Callsign.{Callsign}
use Rattle.circuit_table.specs.Sets.{CircuitTold, Made, Sent, Heeded, Notice, Gone, Restarted, Lost}
use Rattle.circuit_set.specs.Books as books
use Rattle.circuit_table.specs.Events.{Event, Name}
use Rattle.circuit_set.specs.Books.{Fresh, FreshFrom, FreshTold, Timely, TimelyTold, empty, lost_with, with_event, with_events, lost_in}
use Rattle.circuit_set.proofs.Noted.{lost_more}
use Rattle.circuit_verdict.specs.declared.book.Book.{Book}
use Rattle.circuit_verdict.specs.declared.event.Event.{Event as Coming}
use Rattle.circuit_verdict.specs.declared.event.Numbered.{Numbered}
use Rattle.circuit_verdict.specs.declared.allowance.Allowance.{Allowance}
use Rattle.circuit_verdict.specs.declared.late.Late.{Late}
use Rattle.circuit_verdict.specs.declared.late.LateWhy.{LateWhy}
use Rattle.circuit_verdict.specs.declared.late.LateWhy.TheVariants.{Overtaken, Returned}
use Rattle.circuit_verdict.specs.Verdicts.{event_of, events_of, late_of}
use Rattle.circuit_verdict.specs.Judging.{BookStands, Judges}
use Rattle.circuit_verdict.specs.Standing.{Follows, InTime}
use Rattle.circuit_verdict.specs.ByBook.{FailsAt, FirstLateByBook, InTimeByBook, allowance_of}

-- ---- one more event ----
pub timely_more : (allow : books.Book → Name → ℕ) (b : books.Book) (es : List Event) (e : Event) → Timely allow b es → TimelyTold allow (with_events b es) e.node e.told → Timely allow b (es ++ e ∷ [])
timely_more allow b [] e all here = (here, tt)
timely_more allow b (k ∷ es) e all here = (all.0, timely_more allow (with_event b k) es e all.1 here)

pub fresh_more : (b : books.Book) (lost : List Name) (es : List Event) (e : Event) → FreshFrom b lost es → FreshTold (with_events b es) (lost_in lost es) e.node e.told → FreshFrom b lost (es ++ e ∷ [])
fresh_more b lost [] e all here = (here, tt)
fresh_more b lost (k ∷ es) e all here = (all.0, fresh_more (with_event b k) (lost_with lost k.node k.told) es e all.1 here)

noted_more : (b : books.Book) (es : List Event) (e : Event) → with_events b (es ++ e ∷ []) ≡ with_event (with_events b es) e
noted_more b [] e = refl
noted_more b (k ∷ es) e = noted_more (with_event b k) es e

events_more : (ns : List Numbered) (n : Numbered) → events_of (ns ++ n ∷ []) ≡ events_of ns ++ event_of n.event ∷ []
events_more [] n = refl
events_more (k ∷ ns) n = ap (λ (es : List Event). event_of k.event ∷ es) (events_more ns n)

one_place : (b : books.Book) (node : ℕ) (own : Callsign) (t : CircuitTold) → (books.note_told b node own t).places ≡ suc b.places
one_place b node own (Made id pair at request) = refl
one_place b node own (Sent id number d) = refl
one_place b node own (Heeded id d) = refl
one_place b node own (Notice id n) = refl
one_place b node own (Gone id facts) = refl
one_place b node own (Restarted pair) = refl
one_place b node own (Lost id facts) = refl

-- ---- an event among others ----
pub timely_at : (allow : books.Book → Name → ℕ) (b : books.Book) (es later : List Event) (e : Event) → Timely allow b (es ++ e ∷ later) → TimelyTold allow (with_events b es) e.node e.told
timely_at allow b [] later e all = all.0
timely_at allow b (k ∷ es) later e all = timely_at allow (with_event b k) es later e all.1

pub fresh_at : (b : books.Book) (lost : List Name) (es later : List Event) (e : Event) → FreshFrom b lost (es ++ e ∷ later) → FreshTold (with_events b es) (lost_in lost es) e.node e.told
fresh_at b lost [] later e all = all.0
fresh_at b lost (k ∷ es) later e all = fresh_at (with_event b k) (lost_with lost k.node k.told) es later e all.1

events_among : (ns later : List Numbered) (n : Numbered) → events_of (ns ++ n ∷ later) ≡ events_of ns ++ event_of n.event ∷ events_of later
events_among [] later n = refl
events_among (k ∷ ns) later n = ap (λ (es : List Event). event_of k.event ∷ es) (events_among ns later n)

fails_by : (a : Allowance) (b : books.Book) (lost : List Name) (e : Event) (why : LateWhy) → FailsAt a b lost e why
    → TimelyTold (allowance_of a) b e.node e.told → FreshTold b lost e.node e.told → ⊥
fails_by a b lost e Overtaken fails timely fresh = fails timely
fails_by a b lost e Returned fails timely fresh = fails fresh

-- where one event is late, they aren't all timely and fresh
pub late_fails : (a : Allowance) (ns : List Numbered) (late : Late) → FirstLateByBook a ns late → Timely (allowance_of a) empty (events_of ns) → Fresh empty (events_of ns) → ⊥
late_fails a ns late l timely fresh =
    let split = ap events_of l.parts ∙ events_among l.before l.after l.at in
    let timely_there : Timely (allowance_of a) empty (events_of l.before ++ event_of l.at.event ∷ events_of l.after) = rw (← split) timely in
    let fresh_there : FreshFrom empty [] (events_of l.before ++ event_of l.at.event ∷ events_of l.after) = rw (← split) fresh in
    fails_by a (with_events empty (events_of l.before)) (lost_in [] (events_of l.before)) (event_of l.at.event) late.why l.fails
    (timely_at (allowance_of a) empty (events_of l.before) (events_of l.after) (event_of l.at.event) timely_there)
    (fresh_at empty [] (events_of l.before) (events_of l.after) (event_of l.at.event) fresh_there)

-- ---- what a verdict stands for ----
pub stays_late : (a : Allowance) (o : Option Late) (k : Book) (ns : List Numbered) (n : Numbered) → is_some o ≡ true → Follows a o k ns → Follows a o k (ns ++ n ∷ [])
stays_late a None k ns n e f = absurd (cc e)
stays_late a (Some late) k ns n e l = record {
  before = l.before;
  at = l.at;
  after = l.after ++ n ∷ [];
  parts = ap (λ (ms : List Numbered). ms ++ n ∷ []) l.parts ∙ append_assoc l.before (l.at ∷ l.after) (n ∷ []);
  line = l.line;
  timely = l.timely;
  fresh = l.fresh;
  fails = l.fails;
}

judged_by : (a : Allowance) (line : ℕ) (e : Coming) (why : Option LateWhy) (old new : Book) (ns : List Numbered) → InTime a old ns
    → Judges a (with_events empty (events_of ns)) (lost_in [] (events_of ns)) (event_of e) why new
    → new.places ≡ (with_events empty (events_of ns)).places + 1
    → Follows a (late_of line why) new (ns ++ record { line = line; event = e } ∷ [])
judged_by a line e None old new ns k j places =
    let es = events_of ns in
    let next = event_of e in
    let n : Numbered = record { line = line; event = e } in
    let stands : BookStands new (with_event (with_events empty es) next) (lost_with (lost_in [] es) next.node next.told) =
    record { places = places ∙ let one = one_place (with_events empty es) next.node next.own next.told in omega (arith, one); parts = j.parts } in
    record {
      timely = rw (events_more ns n) (timely_more (allowance_of a) empty es next k.timely j.timely);
      fresh = rw (events_more ns n) (fresh_more empty [] es next k.fresh j.fresh);
      book = rw (events_more ns n, noted_more empty es next, lost_more [] es next) stands;
    }
judged_by a line e (Some why) old new ns k j places = record {
  before = ns;
  at = record { line = line; event = e };
  after = [];
  parts = refl;
  line = refl;
  timely = k.timely;
  fresh = k.fresh;
  fails = j;
}

pub goes_on : (a : Allowance) (o : Option Late) (line : ℕ) (e : Coming) (why : Option LateWhy) (old new : Book) (ns : List Numbered) → is_some o ≡ false → Follows a o old ns
    → ((b : books.Book) (lost : List Name) → BookStands old b lost → Judges a b lost (event_of e) why new × (new.places ≡ b.places + 1))
    → Follows a (late_of line why) new (ns ++ record { line = line; event = e } ∷ [])
goes_on a None line e why old new ns none k told =
    let judged = told (with_events empty (events_of ns)) (lost_in [] (events_of ns)) k.book in
    judged_by a line e why old new ns k judged.0 judged.1
goes_on a (Some late) line e why old new ns none k told = absurd (cc none)

-- nothing was late, so that the book has all of it
pub book_in_time : (a : Allowance) (o : Option Late) (k : Book) (ns : List Numbered) → Follows a o k ns → InTimeByBook a (events_of ns)
    → BookStands k (with_events empty (events_of ns)) (lost_in [] (events_of ns))
book_in_time a None k ns f t = f.book
book_in_time a (Some l) k ns f t = absurd (late_fails a ns l f t.0 t.1)
