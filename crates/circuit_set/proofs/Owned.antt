-- Whose partner an end is and whose datagrams it heeds, in a run that is timely and fresh.
use Rattle.std.specs.Prelude.{◌≡◌, ℕ, ◌⊎◌, List, [], ◌∷◌, ◌++◌, Contains, Some, None, refl}
use Rattle.std.proofs.Common.{sym, ◌∙◌, ap, append_assoc, inl, inr}
use Rattle.circuit_l4.specs.declared.notice.EndNotice.{EndNotice}
use Rattle.circuit_l4.specs.declared.notice.EndNotice.TheVariants.{Opened, Refused, Closed, ClosedByPartner, FailedRetries, FailedOversize, FailedInactive}
use Rattle.circuit_set.specs.Books.{Book, Fresh, empty, partner}
use Rattle.circuit_table.specs.Events.{Event, Name}
use Rattle.circuit_set.specs.Naming.{SendsToPartner}
use Rattle.circuit_set.specs.NotedRuns.{Net, begins, net_run, opened_window, told_to}
use Rattle.circuit_set.specs.Owned.{EndsAreOwned, NamesPartner, PartnerSent}
use Rattle.circuit_table.specs.Runs.{AreStarts, AreSteps, Step, end_named, events_of, sets_run}
use Rattle.circuit_table.specs.Sets.{Holder, SetState}
use Rattle.circuit_set.specs.TooLate.{AllowsByWindow, Heeds, InTime, IsFresh, IsTimely, Partners, WasTold}
use Rattle.circuit_set.proofs.Among.{has_last}
use Rattle.circuit_set.proofs.Joined.{partner_looks}
use Rattle.circuit_set.proofs.Noted.{book, finds, found}
use Rattle.circuit_set.proofs.SafeEvents.{all_fresh, all_timely, at_net, at_sets, book_is, events_begin, front, last_now, of_none, of_one_more, told_by_book}
use Rattle.circuit_set.proofs.SendsTo.{requesters_send}

-- ---- of what was told, the first window
some_window : (ns : List EndNotice) (w : ℕ) → Contains ns (Opened w) → (v : ℕ) × (opened_window ns ≡ Some v)
some_window [] w k = absurd (of_none (Opened w) k)
some_window (n ∷ ns) w k = by n (of_one_more (Opened w) n ns k) (some_window ns w)
  where
    by : (m : EndNotice) → (m ≡ Opened w) ⊎ Contains ns (Opened w) → (Contains ns (Opened w) → (v : ℕ) × (opened_window ns ≡ Some v)) → (v : ℕ) × (opened_window (m ∷ ns) ≡ Some v)
    by (Opened v) c later = (v, refl)
    by Refused c later = elim c [ inl s ↦ absurd (cc s) | inr r ↦ later r ]
    by Closed c later = elim c [ inl s ↦ absurd (cc s) | inr r ↦ later r ]
    by ClosedByPartner c later = elim c [ inl s ↦ absurd (cc s) | inr r ↦ later r ]
    by FailedRetries c later = elim c [ inl s ↦ absurd (cc s) | inr r ↦ later r ]
    by FailedOversize c later = elim c [ inl s ↦ absurd (cc s) | inr r ↦ later r ]
    by FailedInactive c later = elim c [ inl s ↦ absurd (cc s) | inr r ↦ later r ]

-- an end has one partner
pub one_partner : (es : List Event) → Fresh empty es → (x y z : Name) → Partners es x y → Partners es x z → y ≡ z
one_partner es f x y z p q = let both : Some y ≡ Some z = sym (found (partner_looks x) es f y p) ∙ found (partner_looks x) es f z q in cc both

-- ---- a run that goes on, timely and fresh to its end
module _ (sets : List SetState) (starts : AreStarts sets) (steps later : List Step) (are : AreSteps (steps ++ later))
    (timely : IsTimely AllowsByWindow (events_of sets (steps ++ later))) (fresh : IsFresh (events_of sets (steps ++ later))) where
  abbrev events : List Event
  events = events_of sets steps

  stays_one : (x y : Name) → Partners events x y → Partners (events_of sets (steps ++ later)) x y
  stays_one x y p = (last_now sets starts steps later are timely fresh x y p).0

  only_one : (x y z : Name) → Partners events x y → Partners (events_of sets (steps ++ later)) x z → y ≡ z
  only_one x y z p q = one_partner (events_of sets (steps ++ later)) (all_fresh sets starts steps later are timely fresh) x y z (stays_one x y p) q

  apart_one : (x y z : Name) → Partners events x z → Partners events y z → x ≡ y
  apart_one x y z p q =
      one_partner events (front sets starts steps later are timely fresh) z x y (last_now sets starts steps later are timely fresh x z p).1 (last_now sets starts steps later are timely fresh y z q).1

  heeded_one : (before after : List Event) (e : Event) (x : Name) (d : List ℕ) → events ≡ before ++ e ∷ after → Heeds x d e → PartnerSent before x d
  heeded_one before after e x d parts heeds =
      let more = events_begin sets steps later in
      let whole : events_of sets (steps ++ later) ≡ before ++ e ∷ (after ++ more.0) = more.1 ∙ (ap (λ es. es ++ more.0) parts ∙ append_assoc before (e ∷ after) more.0) in
      let t : InTime AllowsByWindow before x d = timely before (after ++ more.0) e x d whole heeds in
      (t.partner, t.joined, has_last t.number before t.sending)

  sends_one : (x : Name) (h : Holder) → end_named (sets_run sets steps) x ≡ Some h → h.asked ≡ None
      → (window : ℕ) → WasTold events x (Opened window) → NamesPartner (sets_run sets steps) events x h
  sends_one x h e asked window told =
      let net : Net = net_run (begins sets) steps in
      let w = some_window (told_to net.book.made x) window (told_by_book sets steps x (Opened window) told) in
      let s : SendsToPartner net x h = requesters_send sets starts steps later are (all_timely sets starts steps later are timely fresh) x h (at_net sets steps x h e) asked w.0 w.1 in
      let met : partner (book events) x ≡ Some s.partner_is = ap (λ (b : Book). partner b x) (sym (book_is sets steps)) ∙ s.met in
      (s.partner_is, s.end, finds (partner_looks x) events (front sets starts steps later are timely fresh) s.partner_is met, at_sets sets steps s.partner_is s.end s.there, s.to)

pub ends_are_owned : EndsAreOwned
ends_are_owned sets starts steps later are timely fresh = record {
  stays = stays_one sets starts steps later are timely fresh;
  only = only_one sets starts steps later are timely fresh;
  apart = apart_one sets starts steps later are timely fresh;
  heeded = heeded_one sets starts steps later are timely fresh;
  sends = sends_one sets starts steps later are timely fresh;
}
