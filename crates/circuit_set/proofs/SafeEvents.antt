-- What holds of ends by the notes of the book holds of them by the events.
use Rattle.std.specs.Prelude.{◌≡◌, ◌≢◌, ℕ, zero, suc, ◌⊎◌, Bool, true, false, ◌||◌, if◌then◌else◌, List, [], ◌∷◌, ◌++◌, slice_get, Contains, Option, Some, None, refl}
use Rattle.std.proofs.Common.{sym, ◌∙◌, ap, subst, inl, inr, arith, append_assoc}
use Rattle.ax_address.specs.Callsign.{Callsign}
use Rattle.circuit_l4.specs.declared.notice.EndNotice.{EndNotice}
use Rattle.circuit_l4.specs.declared.notice.EndNotice.TheVariants.{Closed, ClosedByPartner, FailedRetries}
use Rattle.circuit_set.specs.TooLate.{Has, AllowsByWindow, HasPartner, IsFresh, IsTimely, Partners, Tells, WasTold}
use Rattle.circuit_set.specs.Books.{Book, Fresh, FreshFrom, MadeNote, Timely, empty, lost_with, with_event, with_events, partner}
use Rattle.circuit_table.specs.Events.{Event, Name, same_name}
use Rattle.circuit_set.specs.NotedRuns.{Net, allowance_at, begins, end_at, net_run, net_step, told_to}
use Rattle.circuit_set.specs.Safe.{RetriesAreTold, CircuitsSafe, IsSafe, PartnersLast, Safe, SafeBetween}
use Rattle.circuit_table.specs.Runs.{AreStarts, AreSteps, Step, end_named, events_of, sets_at, sets_run, told_at}
use Rattle.circuit_table.specs.Sets.{Holder, SetState, CircuitTold, Made, Sent, Heeded, Notice, Gone, Restarted, Lost}
use Rattle.circuit_set.proofs.Among.{has_nothing}
use Rattle.circuit_set.proofs.Bridge.{same_names}
use Rattle.circuit_set.proofs.ByBook.{fresh_by_book, timely_by_book}
use Rattle.circuit_set.proofs.Expiring.{RetriesNoted}
use Rattle.circuit_set.proofs.Joined.{is_free, partner_looks, unknown_none}
use Rattle.circuit_set.proofs.Lookups.{has_note}
use Rattle.circuit_set.proofs.Noted.{book, finds, found, name_true}
use Rattle.circuit_set.proofs.Noting.{noted_append}
use Rattle.circuit_set.proofs.Opened.{head_has, split_has, tail_has}
use Rattle.circuit_set.proofs.Safe.{SafeNotes, SafeWith, circuits_kept, circuits_now, partners_stay}
use Rattle.circuit_set.proofs.Windows.{last_made, noted_made, notice_in, notices_in, told_is}

-- ---- a list and one of it ----
module _ {A : Type 0} (x : A) where
  first_is : (xs : List A) → Contains (x ∷ xs) x
  first_is xs = (0, omega arith, refl)

  one_more : (y : A) (xs : List A) → Contains xs x → Contains (y ∷ xs) x
  one_more y xs (k, l, e) = (suc k, omega (arith, l), e)

  pub of_one_more : (y : A) (xs : List A) → Contains (y ∷ xs) x → (y ≡ x) ⊎ Contains xs x
  of_one_more y xs (zero, l, e) = inl e
  of_one_more y xs (suc k, l, e) = inr (k, omega (arith, l), e)

  pub of_none : Contains [] x → ⊥
  of_none (k, l, e) = absurd (omega (arith, l))

-- ---- what z was told ----
module _ (z : Name) (n : EndNotice) where
  abbrev IsSaid : Event → Type 0
  IsSaid e = Tells e z (Notice z.id n)

  said : (node : ℕ) (own : Callsign) (id : ℕ) (m : EndNotice) → same_name (record { node = node; id = id }) z ≡ true → m ≡ n → IsSaid (record { node = node; own = own; told = Notice id m })
  said node own id m h same =
      let is : (let x : Name = record { node = node; id = id } in x) ≡ z = same_names (record { node = node; id = id }) z h in
      (ap (λ (x : Name). x.node) is, ap (λ (x : Name). Notice x.id m) is ∙ ap (Notice z.id) same)

  notice_said : (node : ℕ) (own : Callsign) (id : ℕ) (m : EndNotice) (es : List Event) (c : Bool) → same_name (record { node = node; id = id }) z ≡ c
      → Contains ((if c then m ∷ [] else []) ++ notices_in z es) n → (Contains (notices_in z es) n → Has (λ p e. IsSaid e) es) → Has (λ p e. IsSaid e) (record { node = node; own = own; told = Notice id m } ∷ es)
  notice_said node own id m es true h k later = elim (of_one_more n m (notices_in z es) k) [
    | inl same ↦ head_has (record { node = node; own = own; told = Notice id m }) es (said node own id m h same)
    | inr r ↦ tail_has (record { node = node; own = own; told = Notice id m }) es (later r)
  ]
  notice_said node own id m es false h k later = tail_has (record { node = node; own = own; told = Notice id m }) es (later k)

  said_in : (es : List Event) → Contains (notices_in z es) n → Has (λ p e. IsSaid e) es
  said_in [] k = absurd (of_none n k)
  said_in (e ∷ es) k = by e.told k (said_in es)
    where
      by : (t : CircuitTold) → Contains (notice_in z e.node t ++ notices_in z es) n → (Contains (notices_in z es) n → Has (λ p f. IsSaid f) es) → Has (λ p f. IsSaid f) (record { node = e.node; own = e.own; told = t } ∷ es)
      by (Notice id m) k later = notice_said e.node e.own id m es (same_name (record { node = e.node; id = id }) z) refl k later
      by (Made id p at r) k later = tail_has (record { node = e.node; own = e.own; told = Made id p at r }) es (later k)
      by (Sent id number sent) k later = tail_has (record { node = e.node; own = e.own; told = Sent id number sent }) es (later k)
      by (Heeded id d) k later = tail_has (record { node = e.node; own = e.own; told = Heeded id d }) es (later k)
      by (Gone id facts) k later = tail_has (record { node = e.node; own = e.own; told = Gone id facts }) es (later k)
      by (Restarted p) k later = tail_has (record { node = e.node; own = e.own; told = Restarted p }) es (later k)
      by (Lost id facts) k later = tail_has (record { node = e.node; own = e.own; told = Lost id facts }) es (later k)

  -- more behind what contains it
  more_said : (node : ℕ) (t : CircuitTold) (ns : List EndNotice) → Contains ns n → Contains (notice_in z node t ++ ns) n
  more_said node (Notice id m) ns k = by (same_name (record { node = node; id = id }) z)
    where
      by : (c : Bool) → Contains ((if c then m ∷ [] else []) ++ ns) n
      by true = one_more n m ns k
      by false = k
  more_said node (Made id p at r) ns k = k
  more_said node (Sent id number sent) ns k = k
  more_said node (Heeded id d) ns k = k
  more_said node (Gone id facts) ns k = k
  more_said node (Restarted p) ns k = k
  more_said node (Lost id facts) ns k = k

  is_said : (node : ℕ) (t : CircuitTold) (ns : List EndNotice) → node ≡ z.node → t ≡ Notice z.id n → Contains (notice_in z node t ++ ns) n
  is_said node t ns there told =
      let mine : same_name (record { node = node; id = z.id }) z ≡ true = name_true node z.id z there refl in
      subst (λ (u : CircuitTold). Contains (notice_in z node u ++ ns) n) (sym told) (subst (λ (c : Bool). Contains ((if c then n ∷ [] else []) ++ ns) n) (sym mine) (first_is n ns))

  in_said : (es : List Event) → Has (λ p e. IsSaid e) es → Contains (notices_in z es) n
  in_said [] h = absurd (has_nothing h)
  in_said (e ∷ es) h = elim (split_has {P = IsSaid} e es h) [
    | inl s ↦ is_said e.node e.told (notices_in z es) s.0 s.1
    | inr s ↦ more_said e.node e.told (notices_in z es) (in_said es s)
  ]

  noted_case : (b c : Bool) (told rest : List EndNotice) → Contains (if b then told else rest) n → (Contains rest n → c ≡ true) → (b || c) ≡ true
  noted_case true c told rest k later = refl
  noted_case false c told rest k later = later k

  told_noted : (ms : List MadeNote) → Contains (told_to ms z) n → has_note ms z ≡ true
  told_noted [] k = absurd (of_none n k)
  told_noted (m ∷ ms) k = noted_case (same_name m.who z) (has_note ms z) m.told (told_to ms z) k (told_noted ms)

  -- ---- by the book ----
  was_told : (es : List Event) → WasTold es z n → Contains (told_to (book es).made z) n
  was_told es w = subst (λ ns. Contains ns n) (sym (told_is z es w.0 w.1)) (in_said w.1.after w.2)

  told_was : (es : List Event) → Contains (told_to (book es).made z) n → WasTold es z n
  told_was es k =
      let r = last_made z es (noted_made z es (told_noted (book es).made k)) in
      (r.0, r.1, said_in r.1.after (subst (λ ns. Contains ns n) (told_is z es r.0 r.1) k))

-- ---- a run ----
pub run_book : (net : Net) (steps : List Step) → (net_run net steps).book ≡ with_events net.book (events_of net.sets steps)
run_book net [] = refl
run_book net (st ∷ sts) =
    run_book (net_step net st) sts
    ∙ sym (noted_append net.book (told_at net.sets st.node (slice_get net.sets st.node) st.act) (events_of (sets_at net.sets st.node (slice_get net.sets st.node) st.act) sts))

pub run_sets : (net : Net) (steps : List Step) → (net_run net steps).sets ≡ sets_run net.sets steps
run_sets net [] = refl
run_sets net (st ∷ sts) = run_sets (net_step net st) sts

module _ (sets : List SetState) (steps : List Step) where
  pub book_is : (net_run (begins sets) steps).book ≡ book (events_of sets steps)
  book_is = run_book (begins sets) steps

  pub told_by_book : (x : Name) (n : EndNotice) → WasTold (events_of sets steps) x n → Contains (told_to (net_run (begins sets) steps).book.made x) n
  told_by_book x n w = subst (λ (b : Book). Contains (told_to b.made x) n) (sym book_is) (was_told x n (events_of sets steps) w)

  told_by_events : (x : Name) (n : EndNotice) → Contains (told_to (net_run (begins sets) steps).book.made x) n → WasTold (events_of sets steps) x n
  told_by_events x n k = told_was x n (events_of sets steps) (subst (λ (b : Book). Contains (told_to b.made x) n) book_is k)

  pub at_net : (x : Name) (h : Holder) → end_named (sets_run sets steps) x ≡ Some h → end_at (net_run (begins sets) steps) x ≡ Some h
  at_net x h e = ap (λ ss. end_named ss x) (run_sets (begins sets) steps) ∙ e

  pub at_sets : (x : Name) (h : Holder) → end_at (net_run (begins sets) steps) x ≡ Some h → end_named (sets_run sets steps) x ≡ Some h
  at_sets x h e = sym (ap (λ ss. end_named ss x) (run_sets (begins sets) steps)) ∙ e

pub retries_are_told : RetriesNoted → RetriesAreTold
retries_are_told with_event sets starts steps are x h e =
    let r = with_event sets starts steps are x h (at_net sets steps x h e) in
    (λ w. r.0 (told_by_book sets steps x FailedRetries w), λ q. told_by_events sets steps x FailedRetries (r.1 q))

-- what is told by more steps begins with what is told by these
pub events_begin : (sets : List SetState) (steps later : List Step) → (more : List Event) × (events_of sets (steps ++ later) ≡ events_of sets steps ++ more)
events_begin sets [] later = (events_of sets later, refl)
events_begin sets (st ∷ sts) later =
    let next : List SetState = sets_at sets st.node (slice_get sets st.node) st.act in
    let told : List Event = told_at sets st.node (slice_get sets st.node) st.act in
    let r = events_begin next sts later in
    (r.0, ap (λ es. told ++ es) r.1 ∙ sym (append_assoc told (events_of next sts) r.0))

fresh_front : (b : Book) (lost : List Name) (xs ys : List Event) → FreshFrom b lost (xs ++ ys) → FreshFrom b lost xs
fresh_front b lost [] ys f = tt
fresh_front b lost (x ∷ xs) ys f = (f.0, fresh_front (with_event b x) (lost_with lost x.node x.told) xs ys f.1)

pub front_are : (xs ys : List Step) → AreSteps (xs ++ ys) → AreSteps xs
front_are [] ys a = tt
front_are (x ∷ xs) ys a = (a.0, front_are xs ys a.1)

-- one end is held under a name
one_end : {h k : Holder} (o : Option Holder) → o ≡ Some h → o ≡ Some k → h ≡ k
one_end {h} {k} o e f = let both : Some h ≡ Some k = sym e ∙ f in cc both

-- of a run that goes on, timely and fresh to its end
module _ (sets : List SetState) (starts : AreStarts sets) (steps later : List Step) (are : AreSteps (steps ++ later))
    (timely : IsTimely AllowsByWindow (events_of sets (steps ++ later))) (fresh : IsFresh (events_of sets (steps ++ later))) where
  abbrev net : Net
  net = net_run (begins sets) steps

  abbrev events : List Event
  events = events_of sets steps

  abbrev all : List Event
  all = events_of sets (steps ++ later)

  pub all_fresh : Fresh empty all
  all_fresh = (fresh_by_book all).1 fresh

  pub all_timely : Timely allowance_at empty all
  all_timely = (timely_by_book all all_fresh).1 timely

  pub front : Fresh empty events
  front = let more = events_begin sets steps later in fresh_front empty [] events more.0 (subst (Fresh empty) more.1 all_fresh)

  partner_is : (x y : Name) → Partners events x y → partner net.book x ≡ Some y
  partner_is x y j = ap (λ (b : Book). partner b x) (book_is sets steps) ∙ found (partner_looks x) events front y j

  partner_none : (x : Name) → (HasPartner events x → ⊥) → partner net.book x ≡ None
  partner_none x none = ap (λ (b : Book). partner b x) (book_is sets steps) ∙ unknown_none (partner (book events) x) (is_free events front x none)

  with_partner : (x : Name) (h : Holder) → SafeWith net x h (partner net.book x) → (y : Name) → Partners events x y → SafeWith net x h (Some y)
  with_partner x h safe y j = subst (SafeWith net x h) (partner_is x y j) safe

  between : (x y : Name) (h k : Holder) → SafeNotes h.end k.end (told_to net.book.made x) (told_to net.book.made y) → SafeBetween events x y h.end k.end
  between x y h k s = record {
    received = s.received;
    acked = s.acked;
    closed = λ c. elim c [
      | inl w ↦ s.closed (inl (told_by_book sets steps x Closed w))
      | inr w ↦ s.closed (inr (told_by_book sets steps y ClosedByPartner w))
    ];
  }

  pub last_now : (x y : Name) → Partners events x y → Partners all x y × Partners events y x × (x ≢ y)
  last_now x y j =
      let p = partners_stay sets starts steps later are all_timely x y (partner_is x y j) in
      let thence : partner (book all) x ≡ Some y = ap (λ (b : Book). partner b x) (sym (run_book (begins sets) (steps ++ later))) ∙ p.0 in
      let back : partner (book events) y ≡ Some x = ap (λ (b : Book). partner b y) (sym (book_is sets steps)) ∙ p.1 in
      (finds (partner_looks x) all all_fresh y thence, finds (partner_looks y) events front x back, p.2)

  end_safe : RetriesAreTold → (x : Name) (h : Holder) → end_named (sets_run sets steps) x ≡ Some h → SafeWith net x h (partner net.book x) → IsSafe sets steps x h
  end_safe told x h e safe = record {
    end = record {
      joined = λ y k j there. (let w = with_partner x h safe y j in
          let same : w.0 ≡ k = one_end (end_at net y) w.1 (at_net sets steps y k there) in
          between x y h k (subst (λ (i : Holder). SafeNotes h.end i.end (told_to net.book.made x) (told_to net.book.made y)) same w.2));
      back = λ y j. (let l = last_now x y j in (l.1, l.2));
      alone = λ none. subst (SafeWith net x h) (partner_none x none) safe;
    };
    partner = λ y j. (let w = with_partner x h safe y j in (w.0, at_sets sets steps y w.0 w.1));
    retries = told sets starts steps (front_are steps later are) x h e;
  }

  safe_now : RetriesAreTold → Safe sets steps
  safe_now told x h e = end_safe told x h e (circuits_now net (circuits_kept sets starts steps later are all_timely) x h (at_net sets steps x h e))

pub circuits_safe : RetriesAreTold → CircuitsSafe
circuits_safe told sets starts steps later are timely fresh = safe_now sets starts steps later are timely fresh told

pub partners_last : PartnersLast
partners_last sets starts steps later are timely fresh = last_now sets starts steps later are timely fresh
