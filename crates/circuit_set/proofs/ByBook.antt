-- What comes too late by the book comes too late by the events, and the other way round.
use Rattle.std.specs.Prelude.{◌≡◌, ℕ, suc, ◌+◌, ◌-◌, ◌*◌, ◌<◌, Bool, true, false, if◌then◌else◌, List, [], ◌∷◌, ◌++◌, length, Contains, Option, Some, None, refl}
use Rattle.std.proofs.Common.{sym, ◌∙◌, ap, subst, inl, inr, arith, append_assoc, length-append}
use Rattle.std.proofs.lemmas.Bool.{both_ways, false_from_ne_true}
use Rattle.circuit_l4.specs.declared.pair.Pair.{Pair}
use Rattle.circuit_set.specs.Books.{Book, Fresh, FreshTold, HasRequester, MadeNote, NoOther, SentNote, Timely, TimelyTo, TimelyTold, any_ends, empty, is_lost, is_unknown, latest_in, overtakers, partner_in, was_asked, lost_in}
use Rattle.circuit_table.specs.Events.{Event, Name}
use Rattle.circuit_set.specs.NotedRuns.{allowance, allowance_at, opened_window, partner_allowance, told_to}
use Rattle.circuit_set.specs.ByBook.{FreshByBook, PartnersByBook, TimelyBy128, TimelyByBook}
use Rattle.circuit_table.specs.Sets.{CircuitTold, Made, Sent, Heeded, Notice, Gone, Restarted, Lost}
use Rattle.circuit_set.specs.TooLate.{Allowing, AllowsByWindow, Gives, InTime, IsFresh, IsNew, IsOpen, IsTimely, OpenedWith, Tells, allows_fixed}
use Rattle.circuit_set.proofs.Among.{by_snoc, none_split, snoc_split}
use Rattle.circuit_set.proofs.Joined.{asked_marks, asks, has_none, is_free, partner_looks, requested, requests, unknown_none}
use Rattle.circuit_set.proofs.Noted.{book, finds, found, fresh_less, fresh_one, marked, marks, timely_less, timely_one}
use Rattle.circuit_set.proofs.Notes.{MadeAt, NoteNow, contained, in_notes, made_at, note_now}
use Rattle.circuit_set.proofs.Opened.{end_told, opened_with, opens_with, told_end}
use Rattle.circuit_set.proofs.Overtakers.{as_many, at_most}
use Rattle.circuit_set.proofs.Sought.{latest_looks, loss_marks, note_of, sending_of}
use Rattle.circuit_set.proofs.Windows.{notices_in}

-- ---- a pair ----
module _ (es : List Event) (fresh : Fresh empty es) (node : ℕ) (pair : Pair) where
  -- an end that stands open, as the book has it
  pub record OpenNote (z : Name) : Type 0 where
    pub note : MadeNote
    pub inside : Contains (book es).made note
    pub who : note.who ≡ z
    pub lasts : any_ends note.told ≡ false
    pub kept : is_lost (lost_in [] es) note.who ≡ false

  open_note : (z : Name) → IsOpen es z → OpenNote z
  open_note z o =
      let m = o.made.is.1 in
      let n : NoteNow m.0 z o.made.after (book es).made =
      note_now o.made.at.own m.0 z es o.made.before o.made.after o.made.at o.made.parts (refl, m.1, o.made.is.0, m.2) in
      record {
        note = n.note;
        inside = contained n.note (book es).made n.inside;
        who = n.who;
        lasts = ap any_ends n.told ∙ false_from_ne_true (any_ends (notices_in z o.made.after)) (λ t. o.lasts (told_end z o.made.after t));
        kept = ap (is_lost (lost_in [] es)) n.who ∙ false_from_ne_true (is_lost (lost_in [] es) z) (λ t. o.kept (marks (loss_marks z) es fresh t));
      }

  pub open_end : (m : MadeNote) → Contains (book es).made m → any_ends m.told ≡ false → is_lost (lost_in [] es) m.who ≡ false → IsOpen es m.who
  open_end m c lasts kept =
      let a : MadeAt es m = made_at es m (in_notes m (book es).made c) in
      record {
        made = record { before = a.before; at = a.at; after = a.after; parts = a.parts; is = (a.request, a.made) };
        lasts = λ h. both_ways (any_ends m.told) lasts (ap any_ends a.told ∙ end_told m.who a.after h);
        kept = λ h. both_ways (is_lost (lost_in [] es) m.who) kept (marked (loss_marks m.who) es fresh h);
      }

  is_new : (request : Option (List ℕ)) → HasRequester (book es) request → NoOther (book es) (lost_in [] es) node pair → IsNew es node pair request
  is_new request has other = record {
    asked = λ d e. (let h : HasRequester (book es) (Some d) = subst (HasRequester (book es)) e has in
        let r = requested es d h.0 h.1 in
        (h.0, asks es fresh d h.0 r, has_none es fresh h.0 r.found.free));
    apart = λ z y o far partners there given.
        (let m : OpenNote z = open_note z o in
        let q : NoteNow pair y given.after (book es).made = note_now given.is.0 pair y es given.before given.after given.at given.parts given.is.1 in
        let joined : partner_in (book es).made z ≡ Some y = found (partner_looks z) es fresh y partners in
        other m.note q.note m.inside (contained q.note (book es).made q.inside) m.lasts m.kept (λ s. far (ap (λ (x : Name). x.node) (sym m.who) ∙ s))
        (ap (partner_in (book es).made) m.who ∙ (joined ∙ ap (λ x. Some x) (sym q.who))) (ap (λ (x : Name). x.node) q.who ∙ there) q.pair_is);
  }

  has_requester : (request : Option (List ℕ)) → IsNew es node pair request → HasRequester (book es) request
  has_requester None n = tt
  has_requester (Some d) n = let a = n.asked d refl in (a.0, requests es fresh d a.0 a.1 (is_free es fresh a.0 a.2))

  no_other : (request : Option (List ℕ)) → IsNew es node pair request → NoOther (book es) (lost_in [] es) node pair
  no_other request n m q in_m in_q lasts kept far joined there same =
      let a : MadeAt es q = made_at es q (in_notes q (book es).made in_q) in
      n.apart m.who q.who (open_end m in_m lasts kept) far (finds (partner_looks m.who) es fresh q.who joined) there
      (record { before = a.before; at = a.at; after = a.after; parts = a.parts; is = (a.gives.0, subst (λ p. Gives a.gives.0 p q.who a.at) same a.gives.1) })

-- ---- events, one more ----
fresh_case : (es : List Event) (e : Event) → Fresh empty es → IsFresh (es ++ e ∷ []) → FreshTold (book es) (lost_in [] es) e.node e.told
fresh_case es e fresh f = by e.told f
  where
    by : (t : CircuitTold) → IsFresh (es ++ record { node = e.node; own = e.own; told = t } ∷ []) → FreshTold (book es) (lost_in [] es) e.node t
    by (Made id pair at request) g =
        let n : IsNew es e.node pair request = g es [] (record { node = e.node; own = e.own; told = Made id pair at request }) (record { node = e.node; id = id }) pair at request refl (refl, refl) in
        (has_requester es fresh e.node pair request n, no_other es fresh e.node pair request n)
    by (Sent id number d) g = tt
    by (Heeded id d) g = tt
    by (Notice id n) g = tt
    by (Gone id facts) g = tt
    by (Restarted p) g = tt
    by (Lost id facts) g = tt

fresh_events : (es : List Event) → Fresh empty es → IsFresh es
fresh_events = by_snoc (λ es. Fresh empty es → IsFresh es)
    (λ es e old fresh before after k x pair at request parts tells. (let less = fresh_less es e fresh in
    elim (snoc_split es before after e k parts) [
      | inl s ↦ (let t : Tells e x (Made x.id pair at request) = subst (λ j. Tells j x (Made x.id pair at request)) s.1 tells in
          let f : FreshTold (book es) (lost_in [] es) x.node (Made x.id pair at request) =
          subst (λ n. FreshTold (book es) (lost_in [] es) n (Made x.id pair at request)) t.0 (subst (FreshTold (book es) (lost_in [] es) e.node) t.1 less.1) in
          subst (λ b. IsNew b x.node pair request) (sym s.0) (is_new es less.0 x.node pair request f.0 f.1))
      | inr s ↦ old less.0 before s.0 k x pair at request s.2 tells
    ]))
    (λ fresh before after k x pair at request parts tells. absurd (none_split before after k parts))

events_fresh : (es : List Event) → IsFresh es → Fresh empty es
events_fresh = by_snoc (λ es. IsFresh es → Fresh empty es)
    (λ es e old f. (let less : Fresh empty es = old (λ before after k x pair at request parts tells. f before (after ++ e ∷ []) k x pair at request (ap (λ xs. xs ++ e ∷ []) parts ∙ append_assoc before (k ∷ after) (e ∷ [])) tells) in
    fresh_one es e less (fresh_case es e less f)))
    (λ f. tt)

pub fresh_by_book : FreshByBook
fresh_by_book events = (fresh_events events, events_fresh events)

-- ---- a datagram ----
-- the allowance is the same by the book
abbrev Agrees : (Book → Name → ℕ) → Allowing → Type 0
Agrees allow allows =
    (es : List Event) → Fresh empty es → (x y : Name) → partner_in (book es).made x ≡ Some y → (k : ℕ)
    → (k < allow (book es) x → (n : ℕ) × allows es x y n × (k < n)) × (((n : ℕ) × allows es x y n × (k < n)) → k < allow (book es) x)

module _ (allow : Book → Name → ℕ) (allows : Allowing) (agrees : Agrees allow allows) (es : List Event) (fresh : Fresh empty es) (x : Name) (d : List ℕ) where
  size_of : (p : List Event) (e : Event) → length (p ++ e ∷ []) ≡ suc (length p)
  size_of p e = let c : length (p ++ e ∷ []) ≡ length p + 1 = length-append p (e ∷ []) in omega (arith, c)

  whole : (before after : List Event) (at : Event) → es ≡ before ++ at ∷ after → es ≡ (before ++ at ∷ []) ++ after
  whole before after at parts = parts ∙ sym (append_assoc before (at ∷ []) after)

  in_time : TimelyTo allow (book es) x d → InTime allows es x d
  in_time (y, s, joined, latest, few) =
      let last = finds (latest_looks y d) es fresh s latest in
      let upto : List Event = last.before ++ last.at ∷ [] in
      let w : es ≡ upto ++ last.after = whole last.before last.after last.at last.parts in
      let more = (agrees es fresh x y joined (overtakers y x s.place (book es).sent (book es).heard)).0 few in
      record {
        partner = y;
        joined = finds (partner_looks x) es fresh y joined;
        number = s.number;
        sending = sending_of y d s es last;
        allowance = more.0;
        allowed = more.1;
        few = λ os distinct all.
            (let most : length os < suc (overtakers y x (length last.before) (book (upto ++ last.after)).sent (book (upto ++ last.after)).heard) =
            (let a = at_most x y upto last.after (subst (Fresh empty) w fresh) (length last.before) (size_of last.before last.at) os distinct all in omega (arith, a)) in
            let same : overtakers y x (length last.before) (book (upto ++ last.after)).sent (book (upto ++ last.after)).heard ≡ overtakers y x s.place (book es).sent (book es).heard =
            ap (λ i. overtakers y x i (book (upto ++ last.after)).sent (book (upto ++ last.after)).heard) (sym last.is.place) ∙ ap (λ zs. overtakers y x s.place (book zs).sent (book zs).heard) (sym w) in
            let under = more.2 in
            omega (arith, most, same, under));
      }

  timely_to : InTime allows es x d → TimelyTo allow (book es) x d
  timely_to t =
      let y : Name = t.partner in
      let l = t.sending in
      let upto : List Event = l.before ++ l.at ∷ [] in
      let w : es ≡ upto ++ l.after = whole l.before l.after l.at l.parts in
      let s : SentNote = record { who = y; place = length l.before; number = t.number; datagram = l.is.0 } in
      let latest : latest_in (book es).sent y d ≡ Some s = found (latest_looks y d) es fresh s (note_of y d t.number es l) in
      let joined : partner_in (book es).made x ≡ Some y = found (partner_looks x) es fresh y t.joined in
      let under : overtakers y x (length l.before) (book (upto ++ l.after)).sent (book (upto ++ l.after)).heard < t.allowance =
      as_many x y upto l.after (subst (Fresh empty) w fresh) (length l.before) (size_of l.before l.at) t.allowance t.few in (
        y,
        s,
        joined,
        latest,
        (agrees es fresh x y joined (overtakers y x (length l.before) (book es).sent (book es).heard)).1
            (t.allowance, t.allowed, subst (λ zs. overtakers y x (length l.before) (book zs).sent (book zs).heard < t.allowance) (sym w) under),
      )

module _ (allow : Book → Name → ℕ) (allows : Allowing) (agrees : Agrees allow allows) where
  timely_case : (es : List Event) (e : Event) → Fresh empty es → IsTimely allows (es ++ e ∷ []) → TimelyTold allow (book es) e.node e.told
  timely_case es e fresh f = by e.told f
    where
      by : (t : CircuitTold) → IsTimely allows (es ++ record { node = e.node; own = e.own; told = t } ∷ []) → TimelyTold allow (book es) e.node t
      by (Heeded id d) g =
          timely_to allow allows agrees es fresh (record { node = e.node; id = id }) d (g es [] (record { node = e.node; own = e.own; told = Heeded id d }) (record { node = e.node; id = id }) d refl (refl, refl))
      by (Made id pair at request) g = tt
      by (Sent id number d) g = tt
      by (Notice id n) g = tt
      by (Gone id facts) g = tt
      by (Restarted p) g = tt
      by (Lost id facts) g = tt

  timely_events : (es : List Event) → Fresh empty es → Timely allow empty es → IsTimely allows es
  timely_events = by_snoc (λ es. Fresh empty es → Timely allow empty es → IsTimely allows es)
      (λ es e old fresh time before after k x d parts heeds. (let less = (fresh_less es e fresh).0 in
      let two = timely_less allow empty es e time in
      elim (snoc_split es before after e k parts) [
        | inl s ↦ (let t : Tells e x (Heeded x.id d) = subst (λ j. Tells j x (Heeded x.id d)) s.1 heeds in
            let f : TimelyTold allow (book es) x.node (Heeded x.id d) =
            subst (λ n. TimelyTold allow (book es) n (Heeded x.id d)) t.0 (subst (TimelyTold allow (book es) e.node) t.1 two.1) in
            subst (λ b. InTime allows b x d) (sym s.0) (in_time allow allows agrees es less x d f))
        | inr s ↦ old less two.0 before s.0 k x d s.2 heeds
      ]))
      (λ fresh time before after k x d parts heeds. absurd (none_split before after k parts))

  events_timely : (es : List Event) → Fresh empty es → IsTimely allows es → Timely allow empty es
  events_timely = by_snoc (λ es. Fresh empty es → IsTimely allows es → Timely allow empty es)
      (λ es e old fresh f. (let less = (fresh_less es e fresh).0 in
      let rest : Timely allow empty es = old less (λ before after k x d parts heeds. f before (after ++ e ∷ []) k x d (ap (λ xs. xs ++ e ∷ []) parts ∙ append_assoc before (k ∷ after) (e ∷ [])) heeds) in
      timely_one allow empty es e rest (timely_case es e less f)))
      (λ fresh f. tt)

-- ---- the allowances ----
fixed_agrees : Agrees (λ b x. 128) allows_fixed
fixed_agrees es fresh x y joined k = ((λ l. (128, refl, l)), λ p. (let is : p.0 ≡ 128 = p.1 in let l : k < p.0 = p.2 in omega (arith, is, l)))

window_case : (k : ℕ) (o : Option ℕ) → k < allowance o → (w : ℕ) × (o ≡ Some w) × (k < 256 - 2 * w)
window_case k None l = absurd (omega (arith, l))
window_case k (Some w) l = (w, refl, l)

module _ (es : List Event) (fresh : Fresh empty es) (x y : Name) (joined : partner_in (book es).made x ≡ Some y) (k : ℕ) where
  pub by_partner : was_asked (book es).made x ≡ false → allowance_at (book es) x ≡ allowance (opened_window (told_to (book es).made y))
  by_partner h = ap (λ c. if c then allowance (opened_window (told_to (book es).made x)) else partner_allowance (book es) (partner_in (book es).made x)) h ∙ ap (partner_allowance (book es)) joined

  pub by_itself : was_asked (book es).made x ≡ true → allowance_at (book es) x ≡ allowance (opened_window (told_to (book es).made x))
  by_itself h = ap (λ c. if c then allowance (opened_window (told_to (book es).made x)) else partner_allowance (book es) (partner_in (book es).made x)) h

  allows_case : (c : Bool) → was_asked (book es).made x ≡ c → k < allowance_at (book es) x → (n : ℕ) × AllowsByWindow es x y n × (k < n)
  allows_case true h l =
      let w = window_case k (opened_window (told_to (book es).made x)) (subst (λ n. k < n) (by_itself h) l) in
      (256 - 2 * w.0, record { opened = x; which = inl (marks (asked_marks x) es fresh h, refl); window = w.0; told = opened_with x es fresh w.0 w.1; is = refl }, w.2)
  allows_case false h l =
      let w = window_case k (opened_window (told_to (book es).made y)) (subst (λ n. k < n) (by_partner h) l) in
      (256 - 2 * w.0, record { opened = y; which = inr ((λ p. both_ways (was_asked (book es).made x) h (marked (asked_marks x) es fresh p)), refl); window = w.0; told = opened_with y es fresh w.0 w.1; is = refl }, w.2)

  allowed_is : (n : ℕ) → AllowsByWindow es x y n → allowance_at (book es) x ≡ n
  allowed_is n a = elim a.which [
    | inl p ↦ by_itself (marked (asked_marks x) es fresh p.0) ∙ (ap allowance (opens_with x es fresh a.window (subst (λ z. OpenedWith es z a.window) p.1 a.told)) ∙ sym a.is)
    | inr p ↦ by_partner (false_from_ne_true (was_asked (book es).made x) (λ h. p.0 (marks (asked_marks x) es fresh h)))
        ∙ (ap allowance (opens_with y es fresh a.window (subst (λ z. OpenedWith es z a.window) p.1 a.told)) ∙ sym a.is)
  ]

window_agrees : Agrees allowance_at AllowsByWindow
window_agrees es fresh x y joined k =
    (allows_case es fresh x y joined k (was_asked (book es).made x) refl, λ p. (let is : allowance_at (book es) x ≡ p.0 = allowed_is es fresh x y joined k p.0 p.1 in let l : k < p.0 = p.2 in omega (arith, is, l)))

pub timely_by_book : TimelyByBook
timely_by_book events fresh = (timely_events allowance_at AllowsByWindow window_agrees events fresh, events_timely allowance_at AllowsByWindow window_agrees events fresh)

pub timely_by_128 : TimelyBy128
timely_by_128 events fresh = (timely_events (λ b x. 128) allows_fixed fixed_agrees events fresh, events_timely (λ b x. 128) allows_fixed fixed_agrees events fresh)

-- ---- partners ----
pub partners_by_book : PartnersByBook
partners_by_book events fresh x = (
  λ y. (finds (partner_looks x) events fresh y, found (partner_looks x) events fresh y),
  (λ e. has_none events fresh x (ap is_unknown e), λ none. unknown_none (partner_in (book events).made x) (is_free events fresh x none)),
)
