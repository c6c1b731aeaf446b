-- In every run an end was told that its retries are used up exactly where there was one expiry more than there are retries.
use Rattle.std.specs.Prelude.{◌≡◌, ℕ, suc, ◌⊎◌, ◌||◌, Bool, true, false, nat_eq, if◌then◌else◌, List, [], ◌∷◌, ◌++◌, slice_get, slice_set, ◌+◌, ◌↔◌, Contains, Option, Some, None, refl}
use Rattle.std.proofs.Common.{sym, ◌∙◌, ap, subst, inl, inr, arith}
use Rattle.std.proofs.lemmas.Bool.Decides.{nat_tests}
use Rattle.std.proofs.lemmas.List.{append-nil}
use Rattle.ax_address.specs.Callsign.{Callsign}
use Rattle.ax_address.proofs.SameNumbers.{nat_refl}
use Rattle.circuit_l4.specs.declared.pair.Pair.{Pair}
use Rattle.circuit_l4.specs.declared.transport.Transport.TheVariants.{Refuse}
use Rattle.circuit_l4.specs.declared.config.EndConfig.{EndConfig}
use Rattle.circuit_l4.specs.declared.notice.EndNotice.{EndNotice}
use Rattle.circuit_l4.specs.declared.notice.EndNotice.TheVariants.{FailedRetries}
use Rattle.circuit_l4.specs.declared.role.Role.{Role}
use Rattle.circuit_l4.specs.State.{Effect, State}
use Rattle.circuit_l4.specs.Opening.{facts_of}
use Rattle.circuit_l4.specs.Laws.{FailsAfterRetries}
use Rattle.circuit_l4.specs.Table.{Arrive, Input, step}
use Rattle.circuit_l4.specs.Expiries as ends
use Rattle.circuit_l4.specs.Expiries.{Moment, expiries}
use Rattle.circuit_table.specs.Sets.{Act, Call, Calls, Closes, Comes, Connect, ConnectFor, Discard, Restart, Takes, Ticks, Writes, Made, Sent, Heeded, Gone, Restarted, Holder, SetDone, SetState, datagram_to, end_of, goes_to, holder_of, input_of, is_over, losses, makes_end, new_pair, after_restart, set_step, told_by, with_end}
use Rattle.circuit_set.specs.Books.{Book, with_event, with_events}
use Rattle.circuit_table.specs.Events.{Name}
use Rattle.circuit_set.specs.NotedRuns.{Net, begins, end_at, net_run, net_step, told_to}
use Rattle.circuit_table.specs.Runs.{AreStarts, AreSteps, Step, expiries_in, moment_between, end_in, events_at, moments, sets_at, tick_at, tick_by, tick_of, told_at}
use Rattle.circuit_table.specs.Givings.{IsUp}
use Rattle.circuit_set.proofs.Acts.{set_self}
use Rattle.circuit_set.proofs.Bridge.{name_itself}
use Rattle.circuit_set.proofs.Cases.{Every, Idle, IsNew, MadeBy, MovedBy, NoCall, asked_quiet, step_every}
use Rattle.circuit_set.proofs.Given.{none_of, one}
use Rattle.circuit_set.proofs.Lookups.{has_note, not_same}
use Rattle.circuit_set.proofs.Moved.{same_or}
use Rattle.circuit_set.proofs.Noting.{all_noticed, none_noticed, told_noted, with_notices}
use Rattle.circuit_set.proofs.Onward as living
use Rattle.circuit_set.proofs.Onward.{Life, and_then, onward, onward_is, onward_on}
use Rattle.circuit_set.proofs.Restarts.{gone_of, noted_losses}
use Rattle.circuit_set.proofs.Retries.{AllLive, Both, SetsOk, start_lives, step_lives}
use Rattle.circuit_set.proofs.Safe.{none_case}
use Rattle.circuit_set.proofs.Stepped as stepped
use Rattle.circuit_set.proofs.Stepped.{same_holder}

-- each end has come where it is by inputs of its own
abbrev AllLived : (Name → List Moment) → Net → Type 0
AllLived past net = (x : Name) (h : Holder) → end_at net x ≡ Some h → Life (past x) h.end (told_to net.book.made x)

-- and nothing has become of one that wasn't made
abbrev NoneLives : (Name → List Moment) → Net → Type 0
NoneLives past net = (x : Name) → end_at net x ≡ None → past x ≡ []

-- the ends stay
abbrev Forth : Net → Net → Type 0
Forth net new = (x : Name) (h : Holder) → end_at net x ≡ Some h → (k : Holder) × (end_at new x ≡ Some k)

abbrev next : (Name → List Moment) → Net → Step → Net → Name → List Moment
next past net st new x = onward (past x) (moment_between (end_at net x) (tick_at st x) (end_at new x))

-- ---- ticks ----
abbrev nothing : Option ℕ
nothing = None

either_none : (b : Bool) → (if b then nothing else nothing) ≡ nothing
either_none true = refl
either_none false = refl

tick_by_is : (call : Call) (now : ℕ) → tick_by call now ≡ ends.tick_of (input_of call) now
tick_by_is (Writes message) now = refl
tick_by_is Ticks now = refl
tick_by_is Closes now = refl
tick_by_is Takes now = refl

far_call : (n m called id : ℕ) (call : Call) (now : ℕ) (b c : Bool) → nat_eq n m ≡ b → nat_eq called id ≡ c
    → ((let x : Name = record { node = n; id = called } in x) ≡ record { node = m; id = id } → ⊥) → (if b then (if c then tick_by call now else None) else None) ≡ None
far_call n m called id call now true true e f apart =
    let node : n ≡ m = grind (arith, nat_tests) in
    let number : called ≡ id = grind (arith, nat_tests) in
    absurd (apart (ap (λ i. (let x : Name = record { node = i; id = called } in x)) node ∙ ap (λ i. (let x : Name = record { node = m; id = i } in x)) number))
far_call n m called id call now true false e f apart = refl
far_call n m called id call now false c e f apart = refl

-- what moves an end is no tick of another one
far_tick : (n : ℕ) (a : Act) (h : Holder) (g : Effect) → MovedBy a h g → (z : Name) → ((let x : Name = record { node = n; id = h.id } in x) ≡ z → ⊥) → tick_at (record { node = n; act = a }) z ≡ None
far_tick n (Calls called call now) h g by z apart =
    far_call n z.node called z.id call now (nat_eq n z.node) (nat_eq called z.id) refl refl
    (λ same. apart (ap (λ i. (let x : Name = record { node = n; id = i } in x)) (sym by.0) ∙ same))
far_tick n (Comes d now) h g by z apart = either_none (nat_eq n z.node)
far_tick n (Connect dest now) h g by z apart = absurd by
far_tick n (ConnectFor user dest now) h g by z apart = absurd by
far_tick n (Discard id) h g by z apart = absurd by
far_tick n (Restart pair more) h g by z apart = absurd by

-- an input of the end, or nothing of it
pub record OneInput (h : Holder) (g : Effect) (tick : Option ℕ) : Type 0 where
  pub input : Input
  pub now : ℕ
  pub is : g ≡ step h.end input now
  pub at : tick ≡ ends.tick_of input now

own_tick : (n : ℕ) (a : Act) (h : Holder) (g : Effect) → MovedBy a h g → (let t : Option ℕ = tick_at (record { node = n; act = a }) (record { node = n; id = h.id }) in OneInput h g t ⊎ ((t ≡ None) × (g.end ≡ h.end) × (g.notes ≡ [])))
own_tick n (Calls called call now) h g by =
    let same : nat_eq n n ≡ true = nat_refl n in
    let mine : nat_eq called h.id ≡ true = ap (λ i. nat_eq i h.id) by.0 ∙ nat_refl h.id in
    let at : tick_at (record { node = n; act = Calls called call now }) (record { node = n; id = h.id }) ≡ tick_by call now = simp (same, mine) refl in
    inl (record { input = input_of call; now = now; is = by.1; at = at ∙ tick_by_is call now })
own_tick n (Comes d now) h g (inl by) = inl (record { input = Arrive by.0; now = now; is = by.1; at = either_none (nat_eq n n) })
own_tick n (Comes d now) h g (inr by) = inr (either_none (nat_eq n n), by.0, by.1)
own_tick n (Connect dest now) h g by = absurd by
own_tick n (ConnectFor user dest now) h g by = absurd by
own_tick n (Discard id) h g by = absurd by
own_tick n (Restart pair more) h g by = absurd by

-- what isn't a call is no tick
idle_call : (n : ℕ) (s : SetState) (z : Name) (j : Holder) (called : ℕ) (call : Call) (now : ℕ) (b c : Bool) → nat_eq n z.node ≡ b → nat_eq called z.id ≡ c
    → (n ≡ z.node → end_of z.id s.ends ≡ Some j) → ((h : Holder) → end_of called s.ends ≡ Some h → h.gone ≡ true)
    → ((if b then (if c then tick_by call now else None) else None) ≡ None) ⊎ (j.gone ≡ true)
idle_call n s z j called call now true true e f there gone =
    let node : n ≡ z.node = grind (arith, nat_tests) in
    let number : z.id ≡ called = grind (arith, nat_tests) in
    inr (gone j (subst (λ i. end_of i s.ends ≡ Some j) number (there node)))
idle_call n s z j called call now true false e f there gone = inl refl
idle_call n s z j called call now false c e f there gone = inl refl

idle_tick : (n : ℕ) (s : SetState) (a : Act) (z : Name) (j : Holder) → Idle s a → (n ≡ z.node → end_of z.id s.ends ≡ Some j) → (tick_at (record { node = n; act = a }) z ≡ None) ⊎ (j.gone ≡ true)
idle_tick n s (Calls called call now) z j idle there = idle_call n s z j called call now (nat_eq n z.node) (nat_eq called z.id) refl refl there idle
idle_tick n s (Comes d now) z j idle there = inl (either_none (nat_eq n z.node))
idle_tick n s (Connect dest now) z j idle there = inl (either_none (nat_eq n z.node))
idle_tick n s (ConnectFor user dest now) z j idle there = inl (either_none (nat_eq n z.node))
idle_tick n s (Discard id) z j idle there = inl (either_none (nat_eq n z.node))
idle_tick n s (Restart pair more) z j idle there = inl (either_none (nat_eq n z.node))

no_tick : (n : ℕ) (a : Act) → NoCall a → (z : Name) → tick_at (record { node = n; act = a }) z ≡ None
no_tick n (Calls id call now) quiet z = absurd quiet
no_tick n (Comes d now) quiet z = either_none (nat_eq n z.node)
no_tick n (Connect dest now) quiet z = either_none (nat_eq n z.node)
no_tick n (ConnectFor user dest now) quiet z = either_none (nat_eq n z.node)
no_tick n (Discard id) quiet z = either_none (nat_eq n z.node)
no_tick n (Restart pair more) quiet z = either_none (nat_eq n z.node)

idle_of : (s : SetState) (a : Act) → NoCall a → Idle s a
idle_of s (Calls id call now) quiet = absurd quiet
idle_of s (Comes d now) quiet = tt
idle_of s (Connect dest now) quiet = tt
idle_of s (ConnectFor user dest now) quiet = tt
idle_of s (Discard id) quiet = tt
idle_of s (Restart pair more) quiet = tt

-- an end is made by no call of one
made_quiet : (s : SetState) (a : Act) (at : Callsign) (role : Role) (asked : Option Pair) (request : Option (List ℕ)) → MadeBy s a at role asked request → NoCall a
made_quiet s a at role None None by = asked_quiet s a by.0 at by.1
made_quiet s a at role (Some pair) (Some d) by = subst NoCall (sym by.0.comer.came) tt
made_quiet s a at role None (Some d) by = absurd by
made_quiet s a at role (Some pair) None by = absurd by

-- ---- one end ----
between_is : (o p : Option Holder) (tick : Option ℕ) (h k : Holder) → o ≡ Some h → p ≡ Some k → moment_between o tick p ≡ (if h.gone then [] else record { was = h.end; tick = tick; is = k.end } ∷ [])
between_is o p tick h k e f = ap (λ x. moment_between x tick p) e ∙ ap (λ x. moment_between (Some h) tick x) f

still_lived : (past : List Moment) (o p : Option Holder) (tick : Option ℕ) (h k : Holder) (notes : List EndNotice) → o ≡ Some h → p ≡ Some k → k.end ≡ h.end → (tick ≡ None) ⊎ (h.gone ≡ true) → Life past h.end notes
    → Life (onward past (moment_between o tick p)) k.end notes
still_lived past o p tick h k notes e f same (inr gone) c =
    let none : moment_between o tick p ≡ [] = between_is o p tick h k e f ∙ ap (λ (b : Bool). if b then [] else record { was = h.end; tick = tick; is = k.end } ∷ []) gone in
    subst (λ ms. Life (onward past ms) k.end notes) (sym none) (subst (λ s. Life past s notes) (sym same) c)
still_lived past o p tick h k notes e f same (inl none) c = by h.gone refl
  where
    m : Moment
    m = record { was = h.end; tick = tick; is = k.end }

    idle : m ≡ record { was = h.end; tick = None; is = h.end }
    idle = ap (λ t. (let x : Moment = record { was = h.end; tick = t; is = k.end } in x)) none ∙ ap (λ s. (let x : Moment = record { was = h.end; tick = None; is = s } in x)) same

    by : (b : Bool) → h.gone ≡ b → Life (onward past (moment_between o tick p)) k.end notes
    by true g =
        let is : moment_between o tick p ≡ [] = between_is o p tick h k e f ∙ ap (λ (b : Bool). if b then [] else m ∷ []) g in
        subst (λ ms. Life (onward past ms) k.end notes) (sym is) (subst (λ s. Life past s notes) (sym same) c)
    by false g =
        let is : moment_between o tick p ≡ m ∷ [] = between_is o p tick h k e f ∙ ap (λ (b : Bool). if b then [] else m ∷ []) g in
        let on : Life (and_then past m) h.end notes = subst (λ (x : Moment). Life (and_then past x) h.end notes) (sym idle) (living.still past h.end notes c) in
        subst (λ ms. Life (onward past ms) k.end notes) (sym is) (subst (λ s. Life (and_then past m) s notes) (sym same) on)

-- ---- a step of a set ----
module _ (net : Net) (sets : SetsOk net) (live : AllLive net) (n : ℕ) (s : SetState) (here : slice_get net.sets n ≡ Some s) (a : Act) (past : Name → List Moment) (all : AllLived past net) (none : NoneLives past net) where
  abbrev After : SetDone → Net
  After done = record { sets = slice_set net.sets n done.set; book = with_events net.book (events_at n s.own done.told) }

  abbrev st : Step
  st = record { node = n; act = a }

  abbrev P : SetDone → Type 0
  P done = Forth net (After done) × AllLived (next past net st (After done)) (After done)

  there_is : (z : Name) (j : Holder) → end_at net z ≡ Some j → n ≡ z.node → end_of z.id s.ends ≡ Some j
  there_is z j e same = sym (ap (λ o. end_in o z.id) here) ∙ ap (λ i. end_in (slice_get net.sets i) z.id) same ∙ e

  rests_so : (told : Book) → told.made ≡ net.book.made → Idle s a → (let new : Net = record { sets = slice_set net.sets n s; book = told } in Forth net new × AllLived (next past net st new) new)
  rests_so told same idle = (
    λ z h e. (h, ap (λ ss. end_at (record { sets = ss; book = told }) z) (set_self net.sets n s here) ∙ e),
    λ z j q.
        let e : end_at net z ≡ Some j = sym (ap (λ ss. end_at (record { sets = ss; book = told }) z) (set_self net.sets n s here)) ∙ q in
        subst (λ ms. Life (next past net st (record { sets = slice_set net.sets n s; book = told }) z) j.end (told_to ms z)) (sym same)
        (still_lived (past z) (end_at net z) _ (tick_at st z) j j (told_to net.book.made z) e q refl (idle_tick n s a z j idle (there_is z j e)) (all z j e)),
  )

  heeded_made : (h : Holder) (b : Bool) (d : List ℕ) (g : Effect)
      → (with_events net.book (events_at n s.own ((if b then Heeded h.id d ∷ [] else []) ++ told_by s h g))).made ≡ with_notices (record { node = n; id = h.id }) g.notes net.book.made
  heeded_made h true d g = (told_noted s n s.own h g (with_event net.book (record { node = n; own = s.own; told = Heeded h.id d }))).made
  heeded_made h false d g = (told_noted s n s.own h g net.book).made

  -- ---- an end that was made ----
  module _ (h : Holder) (e : State) (over : Bool) (c : Book) (notes : List EndNotice) (there : end_of h.id s.ends ≡ Some h) (held : h.gone ≡ false) (made : c.made ≡ with_notices (record { node = n; id = h.id }) notes net.book.made) where
    abbrev x : Name
    x = record { node = n; id = h.id }

    abbrev to : Holder
    to = record { id = h.id; at = h.at; asked = h.asked; end = e; gone = over }

    abbrev new : Net
    new = record { sets = slice_set net.sets n (record s { ends = with_end to s.ends }); book = c }

    forth_case : (z : Name) (k : Holder) → end_at net z ≡ Some k → (x ≡ z) ⊎ (x ≡ z → ⊥) → (j : Holder) × (end_at new z ≡ Some j)
    forth_case z k q (inl same) = (to, subst (λ w. end_at new w ≡ Some to) same (stepped.end_now net n s here h e over c there))
    forth_case z k q (inr far) = (k, stepped.end_beside net n s here h e over c there z far ∙ q)

    changed : Life (and_then (past x) (record { was = h.end; tick = tick_at st x; is = e })) e (told_to net.book.made x ++ notes) → ((z : Name) → (x ≡ z → ⊥) → tick_at st z ≡ None)
        → (z : Name) (j : Holder) → end_at new z ≡ Some j → (x ≡ z) ⊎ (x ≡ z → ⊥) → Life (next past net st new z) j.end (told_to c.made z)
    changed mine others z j q (inl same) =
        let was : end_at net x ≡ Some h = stepped.end_then net n s here h e over c there in
        let now : end_at new x ≡ Some to = stepped.end_now net n s here h e over c there in
        let is : to ≡ j = same_holder to j (end_at new z) (subst (λ w. end_at new w ≡ Some to) same now) q in
        let note : has_note net.book.made x ≡ true = (live x h was).note in
        let told : told_to c.made x ≡ told_to net.book.made x ++ notes = ap (λ ms. told_to ms x) made ∙ all_noticed x notes net.book.made note in
        let one : moment_between (end_at net x) (tick_at st x) (end_at new x) ≡ record { was = h.end; tick = tick_at st x; is = e } ∷ [] =
        between_is (end_at net x) (end_at new x) (tick_at st x) h to was now ∙ ap (λ (b : Bool). if b then [] else record { was = h.end; tick = tick_at st x; is = e } ∷ []) held in
        let done : Life (next past net st new x) to.end (told_to c.made x) =
        subst (λ ms. Life (onward (past x) ms) e (told_to c.made x)) (sym one) (subst (λ ns. Life (and_then (past x) (record { was = h.end; tick = tick_at st x; is = e })) e ns) (sym told) mine) in
        subst (λ w. Life (next past net st new w) j.end (told_to c.made w)) same (subst (λ (i : Holder). Life (next past net st new x) i.end (told_to c.made x)) is done)
    changed mine others z j q (inr far) =
        let was : end_at net z ≡ Some j = sym (stepped.end_beside net n s here h e over c there z far) ∙ q in
        let told : told_to c.made z ≡ told_to net.book.made z = ap (λ ms. told_to ms z) made ∙ none_noticed x z notes net.book.made far in
        subst (λ ns. Life (next past net st new z) j.end ns) (sym told)
        (still_lived (past z) (end_at net z) (end_at new z) (tick_at st z) j j (told_to net.book.made z) was q refl (inl (others z far)) (all z j was))

  moved_one : (h : Holder) (g : Effect) → end_of h.id s.ends ≡ Some h → g.end.config.retries ≡ h.end.config.retries
      → (let x : Name = record { node = n; id = h.id } in let t : Option ℕ = tick_at st x in OneInput h g t ⊎ ((t ≡ None) × (g.end ≡ h.end) × (g.notes ≡ []))
      → Life (and_then (past x) (record { was = h.end; tick = t; is = g.end })) g.end (told_to net.book.made x ++ g.notes))
  moved_one h g there kept (inl i) =
      let x : Name = record { node = n; id = h.id } in
      let was : end_at net x ≡ Some h = ap (λ o. end_in o h.id) here ∙ there in
      let c : Life (and_then (past x) (record { was = h.end; tick = ends.tick_of i.input i.now; is = (step h.end i.input i.now).end })) (step h.end i.input i.now).end (told_to net.book.made x ++ (step h.end i.input i.now).notes) =
      living.goes (past x) h.end i.input i.now (told_to net.book.made x) (ap (λ (k : Effect). k.end.config.retries) (sym i.is) ∙ kept) (all x h was) in
      let d : Life (and_then (past x) (record { was = h.end; tick = ends.tick_of i.input i.now; is = g.end })) g.end (told_to net.book.made x ++ g.notes) =
      subst (λ (k : Effect). Life (and_then (past x) (record { was = h.end; tick = ends.tick_of i.input i.now; is = k.end })) k.end (told_to net.book.made x ++ k.notes)) (sym i.is) c in
      subst (λ (t : Option ℕ). Life (and_then (past x) (record { was = h.end; tick = t; is = g.end })) g.end (told_to net.book.made x ++ g.notes)) (sym i.at) d
  moved_one h g there kept (inr i) =
      let x : Name = record { node = n; id = h.id } in
      let was : end_at net x ≡ Some h = ap (λ o. end_in o h.id) here ∙ there in
      let notes : told_to net.book.made x ++ g.notes ≡ told_to net.book.made x = ap (λ ns. told_to net.book.made x ++ ns) i.2 ∙ append-nil (told_to net.book.made x) in
      let c : Life (and_then (past x) (record { was = h.end; tick = None; is = h.end })) h.end (told_to net.book.made x) = living.still (past x) h.end (told_to net.book.made x) (all x h was) in
      let d : Life (and_then (past x) (record { was = h.end; tick = None; is = g.end })) g.end (told_to net.book.made x) =
      subst (λ (e : State). Life (and_then (past x) (record { was = h.end; tick = None; is = e })) e (told_to net.book.made x)) (sym i.1) c in
      subst (λ (t : Option ℕ). Life (and_then (past x) (record { was = h.end; tick = t; is = g.end })) g.end (told_to net.book.made x ++ g.notes)) (sym i.0)
      (subst (λ ns. Life (and_then (past x) (record { was = h.end; tick = None; is = g.end })) g.end ns) (sym notes) d)

  moves_so : (h : Holder) (b : Bool) (d : List ℕ) (g : Effect) → end_of h.id s.ends ≡ Some h → h.gone ≡ false → g.end.config.retries ≡ h.end.config.retries → MovedBy a h g → P (goes_to s h (if b then Heeded h.id d ∷ [] else []) g)
  moves_so h b d g there held kept by =
      let c : Book = with_events net.book (events_at n s.own ((if b then Heeded h.id d ∷ [] else []) ++ told_by s h g)) in
      let x : Name = record { node = n; id = h.id } in (
        λ z k q. forth_case h g.end (is_over g.end) c g.notes there held (heeded_made h b d g) z k q (same_or x z),
        λ z j q. changed h g.end (is_over g.end) c g.notes there held (heeded_made h b d g) (moved_one h g there kept (own_tick n a h g by)) (λ w far. far_tick n a h g by w far) z j q (same_or x z),
      )

  leaves_so : (h : Holder) → end_of h.id s.ends ≡ Some h → h.gone ≡ false → ((z : Name) → tick_at st z ≡ None)
      → P (record { set = record s { ends = with_end (record h { gone = true }) s.ends }; told = Gone h.id (facts_of h.end) ∷ [] })
  leaves_so h there held quiet =
      let c : Book = with_events net.book (events_at n s.own (Gone h.id (facts_of h.end) ∷ [])) in
      let x : Name = record { node = n; id = h.id } in
      let g : Effect = record { end = h.end; outs = []; notes = [] } in (
        λ z k q. forth_case h h.end true c [] there held refl z k q (same_or x z),
        λ z j q. changed h h.end true c [] there held refl (moved_one h g there refl (inr (quiet x, refl, refl))) (λ w far. quiet w) z j q (same_or x z),
      )

  -- ---- an end that is made ----
  makes_so : (at : Callsign) (asked : Option Pair) (request : Option (List ℕ)) (g : Effect) → IsNew s asked request g → ((z : Name) → tick_at st z ≡ None) → P (makes_end s at asked request g)
  makes_so at asked request g fresh quiet = (
    λ z k q. (k, stepped.old_end net n s here t h c refl refl none_yet z k q),
    λ z j q. by z j q (same_or y z),
  )
    where
      h : Holder
      h = holder_of s at asked g

      y : Name
      y = record { node = n; id = s.number }

      t : SetState
      t = (makes_end s at asked request g).set

      b : Book
      b = with_event net.book (record { node = n; own = s.own; told = Made s.number (new_pair s) at request })

      c : Book
      c = with_events b (events_at n s.own (told_by s h g))

      none_yet : end_of s.number s.ends ≡ None
      none_yet = none_of s.number s.ends (sets n s here).below

      made_is : c.made ≡ with_notices y g.notes b.made
      made_is = (told_noted s n s.own h g b).made

      new : Net
      new = record { sets = slice_set net.sets n t; book = c }

      by : (z : Name) (j : Holder) → end_at new z ≡ Some j → (y ≡ z) ⊎ (y ≡ z → ⊥) → Life (next past net st new z) j.end (told_to c.made z)
      by z j q (inl same) =
          let was : end_at net y ≡ None = stepped.no_end net n s here t h c refl refl none_yet in
          let is : h ≡ j = same_holder h j (end_at new z) (subst (λ w. end_at new w ≡ Some h) same (stepped.end_here net n s here t h c refl refl none_yet)) q in
          let noted_y : has_note b.made y ≡ true = ap (λ v. v || has_note net.book.made y) (name_itself y) in
          let told : told_to c.made y ≡ g.notes = ap (λ ms. told_to ms y) made_is ∙ all_noticed y g.notes b.made noted_y ∙ ap (λ v. (if v then [] else told_to net.book.made y) ++ g.notes) (name_itself y) in
          let start : next past net st new y ≡ [] = ap (λ o. onward (past y) (moment_between o (tick_at st y) (end_at new y))) was ∙ none y was in
          let done : Life (next past net st new y) g.end (told_to c.made y) = subst (λ k. Life k g.end (told_to c.made y)) (sym start) (subst (λ ns. Life [] g.end ns) (sym told) (living.begins g fresh.born)) in
          subst (λ w. Life (next past net st new w) j.end (told_to c.made w)) same (subst (λ (i : Holder). Life (next past net st new y) i.end (told_to c.made y)) is done)
      by z j q (inr far) =
          let was : end_at net z ≡ Some j = sym (stepped.end_other net n s here t h c refl refl none_yet z far) ∙ q in
          let told : told_to c.made z ≡ told_to net.book.made z = ap (λ ms. told_to ms z) made_is ∙ none_noticed y z g.notes b.made far ∙ ap (λ v. if v then [] else told_to net.book.made z) (not_same y z far) in
          subst (λ ns. Life (next past net st new z) j.end ns) (sym told)
          (still_lived (past z) (end_at net z) (end_at new z) (tick_at st z) j j (told_to net.book.made z) was q refl (inl (quiet z)) (all z j was))

  -- ---- the node starts again ----
  again_so : (pair : Pair) (more : ℕ) → a ≡ Restart pair more → P (after_restart s pair more)
  again_so pair more i = (
    λ z k q. (let r = stepped.is_lost_now net n s here pair more c z k (nat_eq z.node n) refl q in (gone_of k r.0, r.1)),
    λ z j q.
        let r = stepped.was_lost net n s here pair more c z j (nat_eq z.node n) refl q in
        let told : told_to c.made z ≡ told_to net.book.made z = ap (λ ms. told_to ms z) made_is in
        let quiet : tick_at st z ≡ None = ap (λ (x : Act). tick_at (record { node = n; act = x }) z) i ∙ either_none (nat_eq n z.node) in
        let end : j.end ≡ (r.0).end = ap (λ (k : Holder). k.end) (sym r.3) in
        subst (λ ns. Life (next past net st (After (after_restart s pair more)) z) j.end ns) (sym told)
        (still_lived (past z) (end_at net z) _ (tick_at st z) r.0 j (told_to net.book.made z) r.1 q end (inl quiet) (all z r.0 r.1)),
  )
    where
      c : Book
      c = with_events net.book (events_at n s.own (Restarted pair ∷ losses s.ends))

      b : Book
      b = record { places = suc net.book.places; made = net.book.made; sent = net.book.sent; heard = net.book.heard }

      made_is : c.made ≡ net.book.made
      made_is = ap (λ (k : Book). k.made) (noted_losses n s.own s.ends b).2

  every : Every s a P
  every = record {
    rests = λ idle. rests_so net.book refl idle;
    refuses = λ at pair call quiet. rests_so (with_event net.book (record { node = n; own = s.own; told = Sent 0 None (datagram_to s at (Refuse pair)) })) refl (idle_of s a quiet);
    moves = λ h heeded d g there held same ends says lives asks by. moves_so h heeded d g there held (ap (λ (c : EndConfig). c.retries) same.config) by;
    leaves = λ h there held ended quiet. leaves_so h there held (λ z. no_tick n a quiet z);
    makes = λ at asked request g fresh by asks. makes_so at asked request g fresh (λ z. no_tick n a (made_quiet s a at g.end.role asked request by) z);
  }

  by_act : (b : Act) → a ≡ b → P (set_step s a)
  by_act (Connect dest now) i = step_every s (one s (sets n s here)) a P every (subst IsUp (sym i) tt)
  by_act (ConnectFor user dest now) i = step_every s (one s (sets n s here)) a P every (subst IsUp (sym i) tt)
  by_act (Comes d now) i = step_every s (one s (sets n s here)) a P every (subst IsUp (sym i) tt)
  by_act (Calls id call now) i = step_every s (one s (sets n s here)) a P every (subst IsUp (sym i) tt)
  by_act (Discard id) i = step_every s (one s (sets n s here)) a P every (subst IsUp (sym i) tt)
  by_act (Restart pair more) i = subst (λ (b : Act). P (set_step s b)) (sym i) (again_so pair more i)

  pub act_lived : P (set_step s a)
  act_lived = by_act a refl

-- ---- a run ----
-- nothing is at the node of the step
none_lived : (net : Net) (st : Step) (past : Name → List Moment) → AllLived past net → slice_get net.sets st.node ≡ None → AllLived (next past net st net) net
none_lived net st past all e z j q =
    still_lived (past z) (end_at net z) (end_at net z) (tick_at st z) j j (told_to net.book.made z) q q refl (inl (by (nat_eq st.node z.node) refl)) (all z j q)
  where
    by : (b : Bool) → nat_eq st.node z.node ≡ b → (if b then tick_of st.act z.id else None) ≡ None
    by true f =
        let same : st.node ≡ z.node = grind (arith, nat_tests) in
        let bad : None ≡ Some j = sym (ap (λ o. end_in o z.id) e) ∙ ap (λ i. end_in (slice_get net.sets i) z.id) same ∙ q in
        absurd (cc bad)
    by false f = refl

step_lived : (net : Net) (st : Step) (o : Option SetState) (past : Name → List Moment) → Both net → slice_get net.sets st.node ≡ o → AllLived past net → NoneLives past net
    → (let new : Net = record { sets = sets_at net.sets st.node o st.act; book = with_events net.book (told_at net.sets st.node o st.act) } in Forth net new × AllLived (next past net st new) new)
step_lived net st None past b e all none = (λ z h q. (h, q), none_lived net st past all e)
step_lived net st (Some s) past b e all none = act_lived net b.0 b.1 st.node s e st.act past all none

no_end : (o : Option Holder) (tick : Option ℕ) → moment_between o tick None ≡ []
no_end None tick = refl
no_end (Some h) tick = refl

was_none : (net new : Net) (x : Name) (o : Option Holder) → Forth net new → end_at net x ≡ o → end_at new x ≡ None → o ≡ None
was_none net new x None f e q = refl
was_none net new x (Some h) f e q = let r = f x h e in let bad : None ≡ Some r.0 = sym q ∙ r.1 in absurd (cc bad)

next_none : (past : Name → List Moment) (net : Net) (st : Step) (new : Net) → Forth net new → NoneLives past net → NoneLives (next past net st new) new
next_none past net st new f none x e =
    let still : moment_between (end_at net x) (tick_at st x) (end_at new x) ≡ [] = ap (λ o. moment_between (end_at net x) (tick_at st x) o) e ∙ no_end (end_at net x) (tick_at st x) in
    ap (onward (past x)) still ∙ none x (was_none net new x (end_at net x) f refl e)

run_lived : (net : Net) (steps : List Step) (past : Name → List Moment) → Both net → AllLived past net → NoneLives past net → AllLived (λ x. onward (past x) (moments net.sets steps x)) (net_run net steps)
run_lived net [] past b all none = all
run_lived net (st ∷ sts) past b all none =
    let new : Net = net_step net st in
    let r = step_lived net st (slice_get net.sets st.node) past b refl all none in
    let later : AllLived (λ x. onward (next past net st new x) (moments new.sets sts x)) (net_run new sts) =
    run_lived new sts (next past net st new) (step_lives net st (slice_get net.sets st.node) b refl) r.1 (next_none past net st new r.0 none) in
    λ x h e. subst (λ k. Life k h.end (told_to (net_run new sts).book.made x)) (sym (onward_on (past x) (moment_between (end_at net x) (tick_at st x) (end_at new x)) (moments new.sets sts x))) (later x h e)

-- by the notes of the book
abbrev pub RetriesNoted : Type 0
RetriesNoted =
    (sets : List SetState) → AreStarts sets → (steps : List Step) → AreSteps steps
    → (x : Name) (h : Holder) → end_at (net_run (begins sets) steps) x ≡ Some h
    → Contains (told_to (net_run (begins sets) steps).book.made x) FailedRetries ↔ (expiries_in sets steps x ≡ h.end.config.retries + 1)

pub retries_noted : FailsAfterRetries → RetriesNoted
retries_noted law sets starts steps are x h e =
    let ms : List Moment = moments sets steps x in
    let none : (z : Name) → end_at (begins sets) z ≡ None = λ z. none_case sets z (slice_get sets z.node) starts refl in
    let nobody : (z : Name) (k : Holder) → end_at (begins sets) z ≡ Some k → Life [] k.end (told_to (begins sets).book.made z) = λ z k q. let bad : None ≡ Some k = sym (none z) ∙ q in absurd (cc bad) in
    let l : Life (onward [] ms) h.end (told_to (net_run (begins sets) steps).book.made x) = run_lived (begins sets) steps (λ z. []) (start_lives sets starts) nobody (λ z q. refl) x h e in
    let t = living.tells law (onward [] ms) h.end (told_to (net_run (begins sets) steps).book.made x) l in
    let same : expiries (onward [] ms) ≡ expiries ms = ap expiries (onward_is [] ms) in
    (λ w. sym same ∙ t.0 w, λ q. t.1 (same ∙ q))
