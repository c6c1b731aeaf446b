-- A verdict by what is kept is one by the events themselves.
use Rattle.std.proofs.Common.{◌≡◌, ◌↔◌, ℕ, refl, sym, List, [], ◌∷◌, ◌++◌}
use Rattle.std.specs.Prelude.{Option, Some, None}
use Rattle.circuit_set.specs.Books.{Fresh, FreshTold, Timely, TimelyTold, empty, with_events, lost_in}
use Rattle.circuit_table.specs.Events.{Event}
use Rattle.circuit_set.specs.ByBook.{FreshByBook, TimelyBy128, TimelyByBook}
use Rattle.circuit_table.specs.Sets.{CircuitTold, Made, Sent, Heeded, Notice, Gone, Restarted, Lost}
use Rattle.circuit_set.specs.TooLate.{IsFresh, IsTimely}
use Rattle.circuit_verdict.specs.declared.book.Book.{Book}
use Rattle.circuit_verdict.specs.declared.event.Numbered.{Numbered}
use Rattle.circuit_verdict.specs.declared.allowance.Allowance.{Allowance}
use Rattle.circuit_verdict.specs.declared.allowance.Allowance.TheVariants.{Fixed, OfWindow}
use Rattle.circuit_verdict.specs.declared.late.Late.{Late}
use Rattle.circuit_verdict.specs.declared.late.LateWhy.{LateWhy}
use Rattle.circuit_verdict.specs.declared.late.LateWhy.TheVariants.{Overtaken, Returned}
use Rattle.circuit_verdict.specs.ByBook.{FailsAt, FirstLateByBook, InTimeByBook, allowance_of}
use Rattle.circuit_verdict.specs.Verdicts.{event_of, events_of, AreInTime, Fails, IsFirstLate, IsVerdict, allows_of}
use Rattle.circuit_verdict.specs.Standing.{Follows}
use Rattle.circuit_verdict.proofs.Runs.{fresh_at, fresh_more, late_fails, timely_at}

module _ (pairs : FreshByBook) (by_window : TimelyByBook) (by_128 : TimelyBy128) where
  timely_as : (a : Allowance) (es : List Event) → Fresh empty es → Timely (allowance_of a) empty es ↔ IsTimely (allows_of a) es
  timely_as Fixed es fresh = by_128 es fresh
  timely_as OfWindow es fresh = by_window es fresh

  pub as_told : (a : Allowance) (es : List Event) → InTimeByBook a es → AreInTime a es
  as_told a es t = ((timely_as a es t.1).0 t.0, (pairs es).0 t.1)

  pub as_noted : (a : Allowance) (es : List Event) → AreInTime a es → InTimeByBook a es
  as_noted a es t = let fresh : Fresh empty es = (pairs es).1 t.1 in ((timely_as a es fresh).1 t.0, fresh)

  -- an event that comes too late as a datagram is fresh
  overtaken : (a : Allowance) (es : List Event) (e : Event) → Fresh empty es → (TimelyTold (allowance_of a) (with_events empty es) e.node e.told → ⊥) → Fresh empty (es ++ e ∷ [])
  overtaken a es e fresh late = by e.told late
    where
      by : (t : CircuitTold) → (TimelyTold (allowance_of a) (with_events empty es) e.node t → ⊥) → Fresh empty (es ++ record { node = e.node; own = e.own; told = t } ∷ [])
      by (Heeded id d) f = fresh_more empty [] es (record { node = e.node; own = e.own; told = Heeded id d }) fresh tt
      by (Made id pair at request) f = absurd (f tt)
      by (Sent id number d) f = absurd (f tt)
      by (Notice id n) f = absurd (f tt)
      by (Gone id facts) f = absurd (f tt)
      by (Restarted pair) f = absurd (f tt)
      by (Lost id facts) f = absurd (f tt)

  fails_as : (a : Allowance) (es : List Event) (e : Event) (why : LateWhy) → Fresh empty es → FailsAt a (with_events empty es) (lost_in [] es) e why → Fails a (es ++ e ∷ []) why
  fails_as a es e Overtaken fresh f = λ timely.
      f (timely_at (allowance_of a) empty es [] e ((timely_as a (es ++ e ∷ []) (overtaken a es e fresh f)).1 timely))
  fails_as a es e Returned fresh f = λ all. f (fresh_at empty [] es [] e ((pairs (es ++ e ∷ [])).1 all))

  first_as : (a : Allowance) (ns : List Numbered) (late : Late) → FirstLateByBook a ns late → IsFirstLate a ns late
  first_as a ns late l = record {
    before = l.before;
    at = l.at;
    after = l.after;
    parts = l.parts;
    line = l.line;
    in_time = as_told a (events_of l.before) (l.timely, l.fresh);
    fails = fails_as a (events_of l.before) (event_of l.at.event) late.why l.fresh l.fails;
  }

  same_late : (l late : Late) → Some l ≡ Some late → l ≡ late
  same_late l late e = cc e

  pub verdict_is : (a : Allowance) (o : Option Late) (k : Book) (ns : List Numbered) → Follows a o k ns → IsVerdict a ns o
  verdict_is a None k ns f = record {
    none = ((λ e. as_told a (events_of ns) (f.timely, f.fresh)), (λ p. refl));
    first = λ late e. absurd (cc e);
  }
  verdict_is a (Some l) k ns f = record {
    none = ((λ e. absurd (cc e)), (λ p. (let t : InTimeByBook a (events_of ns) = as_noted a (events_of ns) p in absurd (late_fails a ns l f t.0 t.1))));
    first = λ late e. rw (← same_late l late e) (first_as a ns l f);
  }
