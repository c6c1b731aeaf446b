-- In a timely run a requester's end that was opened sends to its partner's pair.
use Rattle.std.specs.Prelude.{◌≡◌, ℕ, suc, ◌⊎◌, ◌||◌, Bool, true, false, nat_eq, if◌then◌else◌, List, [], ◌∷◌, ◌++◌, drop, slice_get, slice_set, Option, Some, None, Ok, refl}
use Rattle.std.proofs.Common.{sym, ◌∙◌, ap, subst, inl, inr, arith}
use Rattle.ax_address.specs.Callsign.{Callsign}
use Rattle.circuit_l4.specs.declared.pair.Pair.{Pair}
use Rattle.circuit_l4.specs.declared.transport.Transport.TheVariants.{Accept}
use Rattle.circuit_l4.specs.declared.notice.EndNotice.{EndNotice}
use Rattle.circuit_l4.specs.declared.notice.EndNotice.TheVariants.{Opened, Refused, Closed, ClosedByPartner, FailedRetries, FailedOversize, FailedInactive}
use Rattle.circuit_l4.specs.Transports.{transport_at}
use Rattle.circuit_l4.specs.State.{Effect, State}
use Rattle.circuit_l4.specs.Opening.{facts_of}
use Rattle.circuit_table.specs.Sets.{Act, Calls, Comes, Connect, ConnectFor, Discard, Restart, Made, Sent, Heeded, Gone, Restarted, Holder, SetDone, SetState, end_of, goes_to, holder_of, is_over, losses, makes_end, new_pair, after_restart, set_step, told_by, with_end}
use Rattle.circuit_set.specs.Books.{Book, Timely, TimelyTo, with_event, with_events, partner, partner_in}
use Rattle.circuit_table.specs.Events.{Event, Name}
use Rattle.circuit_set.specs.NotedRuns.{Net, allowance_at, begins, end_at, net_run, net_step, opened_window, told_to}
use Rattle.circuit_table.specs.Runs.{AreStarts, AreSteps, Step, end_in, events_at, events_of, sets_at, told_at}
use Rattle.circuit_set.specs.Naming.{RequestersSend, SendsToPartner}
use Rattle.circuit_set.proofs.Acts.{set_self}
use Rattle.circuit_set.proofs.Asks.{AskOf}
use Rattle.circuit_set.proofs.Bridge.{name_itself}
use Rattle.circuit_set.proofs.Cases.{Cases, IsNew, Lives, Says, step_cases}
use Rattle.circuit_set.proofs.Copies.{copy_reads}
use Rattle.circuit_set.proofs.Ended.{Ends}
use Rattle.circuit_set.proofs.Invariant.{CircuitOk, Kept}
use Rattle.circuit_set.proofs.Lookups.{InEnds, has_note, not_same}
use Rattle.circuit_set.proofs.Moved.{same_or}
use Rattle.circuit_set.proofs.Noting.{all_noticed, none_noticed, told_noted, with_notices}
use Rattle.circuit_set.proofs.Opens.{step_kept, timely_parts}
use Rattle.circuit_set.proofs.Pasts.{Found, find_latest}
use Rattle.circuit_set.proofs.Restarts.{gone_of, noted_losses}
use Rattle.circuit_set.proofs.Safe.{none_case, start_kept}
use Rattle.circuit_set.proofs.Stepped as stepped
use Rattle.circuit_set.proofs.Stepped.{Onto, onto_itself, same_holder}
use Rattle.circuit_table.proofs.Names.{SameEnd}

-- each requester's end that was opened sends to its partner's pair
abbrev Known : Net → Type 0
Known net = (x : Name) (h : Holder) → end_at net x ≡ Some h → h.asked ≡ None → (window : ℕ) → opened_window (told_to net.book.made x) ≡ Some window → SendsToPartner net x h

window_back : (xs ys : List EndNotice) (w : ℕ) → opened_window ys ≡ None → opened_window (xs ++ ys) ≡ Some w → opened_window xs ≡ Some w
window_back [] ys w none e = let bad : None ≡ Some w = sym none ∙ e in cc
window_back (Opened window ∷ xs) ys w none e = e
window_back (Refused ∷ xs) ys w none e = window_back xs ys w none e
window_back (Closed ∷ xs) ys w none e = window_back xs ys w none e
window_back (ClosedByPartner ∷ xs) ys w none e = window_back xs ys w none e
window_back (FailedRetries ∷ xs) ys w none e = window_back xs ys w none e
window_back (FailedOversize ∷ xs) ys w none e = window_back xs ys w none e
window_back (FailedInactive ∷ xs) ys w none e = window_back xs ys w none e

-- a partner that an end has had it has still, and its partner's end is there with its pair
record GoesOn (net new : Net) : Type 0 where
  stays : (x y : Name) → partner net.book x ≡ Some y → partner new.book x ≡ Some y
  is : (x : Name) (h : Holder) → end_at net x ≡ Some h → (to : Holder) × (end_at new x ≡ Some to) × Onto h to

carried : (net new : Net) (x : Name) (h to : Holder) → GoesOn net new → to.end.to ≡ h.end.to → SendsToPartner net x h → SendsToPartner new x to
carried net new x h to g same k =
    let r = g.is k.partner_is k.end k.there in
    record { partner_is = k.partner_is; met = g.stays x k.partner_is k.met; end = r.0; there = r.1; to = same ∙ k.to ∙ sym r.2.pair }

module _ (net : Net) (k : Kept net) (known : Known net) (n : ℕ) (s : SetState) (here : slice_get net.sets n ≡ Some s) where
  abbrev After : SetDone → Net
  After done = record { sets = slice_set net.sets n done.set; book = with_events net.book (events_at n s.own done.told) }

  abbrev Stays : SetDone → Type 0
  Stays done = (x y : Name) → partner net.book x ≡ Some y → partner (After done).book x ≡ Some y

  abbrev P : SetDone → Type 0
  P done = Stays done → Timely allowance_at net.book (events_at n s.own done.told) → Known (After done)

  -- ---- an end that was made ----
  module _ (h : Holder) (e : State) (over : Bool) (c : Book) (notes : List EndNotice) (there : end_of h.id s.ends ≡ Some h) (made : c.made ≡ with_notices (record { node = n; id = h.id }) notes net.book.made) (pair : e.pair ≡ h.end.pair) where
    abbrev x : Name
    x = record { node = n; id = h.id }

    abbrev to : Holder
    to = record { id = h.id; at = h.at; asked = h.asked; end = e; gone = over }

    abbrev new : Net
    new = record { sets = slice_set net.sets n (record s { ends = with_end to s.ends }); book = c }

    -- of which the other ends know nothing
    is_now : (z : Name) (j : Holder) → end_at net z ≡ Some j → (x ≡ z) ⊎ (x ≡ z → ⊥) → (i : Holder) × (end_at new z ≡ Some i) × (i.end.pair ≡ j.end.pair)
    is_now z j q (inl same) =
        let is : h ≡ j = same_holder h j (end_at net z) (subst (λ w. end_at net w ≡ Some h) same (stepped.end_then net n s here h e over c there)) q in
        (to, subst (λ w. end_at new w ≡ Some to) same (stepped.end_now net n s here h e over c there), pair ∙ ap (λ (i : Holder). i.end.pair) is)
    is_now z j q (inr far) = (j, stepped.end_beside net n s here h e over c there z far ∙ q, refl)

    kept_on : (stays : (z v : Name) → partner net.book z ≡ Some v → partner c z ≡ Some v) → (z : Name) (j i : Holder) → i.end.to ≡ j.end.to → SendsToPartner net z j → SendsToPartner new z i
    kept_on stays z j i same o =
        let r = is_now o.partner_is o.end o.there (same_or x o.partner_is) in
        record { partner_is = o.partner_is; met = stays z o.partner_is o.met; end = r.0; there = r.1; to = same ∙ o.to ∙ sym r.2 }

    known_case : (stays : (z v : Name) → partner net.book z ≡ Some v → partner c z ≡ Some v) → (has_note net.book.made x ≡ true)
        → (mine : h.asked ≡ None → (w : ℕ) → opened_window (told_to net.book.made x ++ notes) ≡ Some w → SendsToPartner new x to)
        → (z : Name) (j : Holder) → end_at new z ≡ Some j → j.asked ≡ None → (w : ℕ) → opened_window (told_to c.made z) ≡ Some w → (x ≡ z) ⊎ (x ≡ z → ⊥) → SendsToPartner new z j
    known_case stays note mine z j q asked w lasts (inl same) =
        let is : to ≡ j = same_holder to j (end_at new z) (subst (λ v. end_at new v ≡ Some to) same (stepped.end_now net n s here h e over c there)) q in
        let told : told_to c.made z ≡ told_to net.book.made x ++ notes = ap (λ v. told_to c.made v) (sym same) ∙ ap (λ ms. told_to ms x) made ∙ all_noticed x notes net.book.made note in
        let sends : SendsToPartner new x to = mine (ap (λ (i : Holder). i.asked) is ∙ asked) w (sym (ap opened_window told) ∙ lasts) in
        subst (λ v. SendsToPartner new v j) same (subst (λ (i : Holder). SendsToPartner new x i) is sends)
    known_case stays note mine z j q asked w lasts (inr far) =
        let old : end_at net z ≡ Some j = sym (stepped.end_beside net n s here h e over c there z far) ∙ q in
        let told : told_to c.made z ≡ told_to net.book.made z = ap (λ ms. told_to ms z) made ∙ none_noticed x z notes net.book.made far in
        kept_on stays z j j refl (known z j old asked w (sym (ap opened_window told) ∙ lasts))

  -- ---- what is heeded ----
  -- an Accept that is heeded in time is the partner's, and has its pair
  module _ (h : Holder) (d : List ℕ) (to own : Pair) (window : ℕ) (there : end_of h.id s.ends ≡ Some h) (read : transport_at (drop 15 d) ≡ Ok (Accept to own window))
      (time : TimelyTo allowance_at net.book (record { node = n; id = h.id }) d) where
    abbrev me : Name
    me = record { node = n; id = h.id }

    here_is : end_at net me ≡ Some h
    here_is = ap (λ o. end_in o h.id) here ∙ there

    accepted : (y : Name) × (i : Holder) × (partner net.book me ≡ Some y) × (end_at net y ≡ Some i) × (own ≡ i.end.pair)
    accepted =
        let y : Name = time.0 in
        let f : Found k.past time.0 d time.1 = find_latest k.past net.book.sent time.0 d time.1 k.noted time.3 in
        let r = copy_reads d time.1.datagram f.past.flight.out f.copy f.entry.spelled in
        let two : Ok f.past.flight.out ≡ Ok (Accept to own window) = sym r.transport ∙ read in
        let out : f.past.flight.out ≡ Accept to own window = cc in
        let c : CircuitOk net k.past me time.0 h.end = (k.ends me h here_is).paired time.0 time.2 in
        let asks : AskOf c.end.end f.past.flight.out f.past.flight.number = (k.ends time.0 c.end c.there).asks f.past f.inside f.by in
        let ask : AskOf c.end.end (Accept to own window) f.past.flight.number = subst (λ t. AskOf c.end.end t f.past.flight.number) out asks in
        (time.0, c.end, time.2, c.there, ask.0)

  heeded_made : (h : Holder) (b : Bool) (d : List ℕ) (g : Effect)
      → (with_events net.book (events_at n s.own ((if b then Heeded h.id d ∷ [] else []) ++ told_by s h g))).made ≡ with_notices (record { node = n; id = h.id }) g.notes net.book.made
  heeded_made h true d g = (told_noted s n s.own h g (with_event net.book (record { node = n; own = s.own; told = Heeded h.id d }))).made
  heeded_made h false d g = (told_noted s n s.own h g net.book).made

  note_here : (h : Holder) → end_of h.id s.ends ≡ Some h → has_note net.book.made (record { node = n; id = h.id }) ≡ true
  note_here h there = (k.ends (record { node = n; id = h.id }) h (ap (λ o. end_in o h.id) here ∙ there)).note

  mine_case : (h : Holder) (b : Bool) (d : List ℕ) (g : Effect) (there : end_of h.id s.ends ≡ Some h) (same : SameEnd h.end g.end) (stays : Stays (goes_to s h (if b then Heeded h.id d ∷ [] else []) g))
      → Timely allowance_at net.book (events_at n s.own ((if b then Heeded h.id d ∷ [] else []) ++ told_by s h g)) → Says h b d g
      → h.asked ≡ None → (w : ℕ) → opened_window (told_to net.book.made (record { node = n; id = h.id }) ++ g.notes) ≡ Some w
      → SendsToPartner (After (goes_to s h (if b then Heeded h.id d ∷ [] else []) g)) (record { node = n; id = h.id }) (record { id = h.id; at = h.at; asked = h.asked; end = g.end; gone = is_over g.end })
  mine_case h b d g there same stays time (inl r) asked w lasts =
      let me : Name = record { node = n; id = h.id } in
      let c : Book = with_events net.book (events_at n s.own ((if b then Heeded h.id d ∷ [] else []) ++ told_by s h g)) in
      let old : SendsToPartner net me h = known me h (ap (λ o. end_in o h.id) here ∙ there) asked w (window_back (told_to net.book.made me) g.notes w r.unopened lasts) in
      kept_on h g.end (is_over g.end) c g.notes there (heeded_made h b d g) same.pair stays me h (record { id = h.id; at = h.at; asked = h.asked; end = g.end; gone = is_over g.end }) r.to old
  mine_case h b d g there same stays time (inr r) asked w lasts =
      let me : Name = record { node = n; id = h.id } in
      let c : Book = with_events net.book (events_at n s.own ((if b then Heeded h.id d ∷ [] else []) ++ told_by s h g)) in
      let heard : Timely allowance_at net.book (events_at n s.own ((if true then Heeded h.id d ∷ [] else []) ++ told_by s h g)) = subst (λ v. Timely allowance_at net.book (events_at n s.own ((if v then Heeded h.id d ∷ [] else []) ++ told_by s h g))) r.3 time in
      let a = accepted h d r.0 r.1 r.2 there r.4 heard.0 in
      let i = is_now h g.end (is_over g.end) c g.notes there (heeded_made h b d g) same.pair a.0 a.1 a.3 (same_or me a.0) in
      record { partner_is = a.0; met = stays me a.0 a.2; end = i.0; there = i.1; to = r.5 ∙ a.4 ∙ sym i.2 }

  moves_so : (h : Holder) (b : Bool) (d : List ℕ) (g : Effect) → end_of h.id s.ends ≡ Some h → h.gone ≡ false → SameEnd h.end g.end → Ends h.end g → Says h b d g → Lives h.end g
      → P (goes_to s h (if b then Heeded h.id d ∷ [] else []) g)
  moves_so h b d g there held same ends says lives stays time z j q asked w lasts =
      let c : Book = with_events net.book (events_at n s.own ((if b then Heeded h.id d ∷ [] else []) ++ told_by s h g)) in
      known_case h g.end (is_over g.end) c g.notes there (heeded_made h b d g) same.pair stays (note_here h there) (mine_case h b d g there same stays time says) z j q asked w lasts (same_or (record { node = n; id = h.id }) z)

  leaves_so : (h : Holder) → end_of h.id s.ends ≡ Some h → h.gone ≡ false
      → P (record { set = record s { ends = with_end (record h { gone = true }) s.ends }; told = Gone h.id (facts_of h.end) ∷ [] })
  leaves_so h there held stays time z j q asked w lasts =
      let me : Name = record { node = n; id = h.id } in
      let c : Book = with_events net.book (events_at n s.own (Gone h.id (facts_of h.end) ∷ [])) in
      let mine = λ (a : h.asked ≡ None) (v : ℕ) (o : opened_window (told_to net.book.made me ++ []) ≡ Some v).
      kept_on h h.end true c [] there refl refl stays me h (record { id = h.id; at = h.at; asked = h.asked; end = h.end; gone = true }) refl
      (known me h (ap (λ o. end_in o h.id) here ∙ there) a v (window_back (told_to net.book.made me) [] v refl o)) in
      known_case h h.end true c [] there refl refl stays (note_here h there) mine z j q asked w lasts (same_or me z)

  refused_known : (d : List ℕ) → Known (record { sets = slice_set net.sets n s; book = with_event net.book (record { node = n; own = s.own; told = Sent 0 None d }) })
  refused_known d =
      let c : Book = with_event net.book (record { node = n; own = s.own; told = Sent 0 None d }) in
      let new : Net = record { sets = net.sets; book = c } in
      let g : GoesOn net new = record { stays = λ x y e. e; is = λ x h e. (h, e, onto_itself h) } in
      let now : Known new = λ x h e asked w lasts. carried net new x h h g refl (known x h e asked w lasts) in
      subst (λ ss. Known (record { sets = ss; book = c })) (sym (set_self net.sets n s here)) now

  -- ---- an end that is made ----
  module _ (at : Callsign) (asked : Option Pair) (request : Option (List ℕ)) (g : Effect) (new : IsNew s asked request g) where
    abbrev h : Holder
    h = holder_of s at asked g

    abbrev t : SetState
    t = (makes_end s at asked request g).set

    abbrev y : Name
    y = record { node = n; id = s.number }

    abbrev b : Book
    b = with_event net.book (record { node = n; own = s.own; told = Made s.number (new_pair s) at request })

    abbrev c : Book
    c = with_events b (events_at n s.own (told_by s h g))

    abbrev after : Net
    after = record { sets = slice_set net.sets n t; book = c }

    none_yet : end_of s.number s.ends ≡ None
    none_yet = (k.sets n s here).fresh s.number (omega arith)

    made_is : c.made ≡ with_notices y g.notes b.made
    made_is = (told_noted s n s.own h g b).made

    told_new : told_to c.made y ≡ g.notes
    told_new =
        ap (λ ms. told_to ms y) made_is ∙ all_noticed y g.notes b.made (ap (λ q. q || has_note net.book.made y) (name_itself y))
        ∙ ap (λ q. (if q then [] else told_to net.book.made y) ++ g.notes) (name_itself y)

    told_old : (z : Name) → (y ≡ z → ⊥) → told_to c.made z ≡ told_to net.book.made z
    told_old z apart = ap (λ ms. told_to ms z) made_is ∙ none_noticed y z g.notes b.made apart ∙ ap (λ q. if q then [] else told_to net.book.made z) (not_same y z apart)

    old_on : (stays : (z v : Name) → partner net.book z ≡ Some v → partner c z ≡ Some v) → (z : Name) (j : Holder) → SendsToPartner net z j → SendsToPartner after z j
    old_on stays z j o = record {
      partner_is = o.partner_is;
      met = stays z o.partner_is o.met;
      end = o.end;
      there = stepped.old_end net n s here t h c refl refl none_yet o.partner_is o.end o.there;
      to = o.to;
    }

    new_case : (stays : (z v : Name) → partner net.book z ≡ Some v → partner c z ≡ Some v) → (z : Name) (j : Holder) → end_at after z ≡ Some j → j.asked ≡ None
        → (w : ℕ) → opened_window (told_to c.made z) ≡ Some w → (y ≡ z) ⊎ (y ≡ z → ⊥) → SendsToPartner after z j
    new_case stays z j q none w lasts (inl same) =
        let is : h ≡ j = same_holder h j (end_at after z) (subst (λ v. end_at after v ≡ Some h) same (stepped.end_here net n s here t h c refl refl none_yet)) q in
        let quiet : opened_window g.notes ≡ None = new.asks (ap (λ (i : Holder). i.asked) is ∙ none) in
        let bad : None ≡ Some w = sym quiet ∙ sym (ap opened_window told_new) ∙ ap (λ v. opened_window (told_to c.made v)) same ∙ lasts in
        cc
    new_case stays z j q none w lasts (inr far) =
        old_on stays z j (known z j (sym (stepped.end_other net n s here t h c refl refl none_yet z far) ∙ q) none w (sym (ap opened_window (told_old z far)) ∙ lasts))

  makes_so : (at : Callsign) (asked : Option Pair) (request : Option (List ℕ)) (g : Effect) → IsNew s asked request g → P (makes_end s at asked request g)
  makes_so at asked request g new stays time z j q none w lasts = new_case at asked request g new stays z j q none w lasts (same_or (record { node = n; id = s.number }) z)

  cases : Cases s P
  cases = record {
    rests = λ stays time. subst (λ ss. Known (record { sets = ss; book = net.book })) (sym (set_self net.sets n s here)) known;
    refuses = λ d stays time. refused_known d;
    moves = moves_so;
    leaves = leaves_so;
    makes = makes_so;
  }

  -- ---- the node starts again ----
  again_so : (pair : Pair) (more : ℕ) → Known (After (after_restart s pair more))
  again_so pair more z j q asked w lasts =
      let c : Book = with_events net.book (events_at n s.own (Restarted pair ∷ losses s.ends)) in
      let new : Net = After (after_restart s pair more) in
      let b : Book = record { places = suc net.book.places; made = net.book.made; sent = net.book.sent; heard = net.book.heard } in
      let made_is : c.made ≡ net.book.made = ap (λ (a : Book). a.made) (noted_losses n s.own s.ends b).2 in
      let r = stepped.was_lost net n s here pair more c z j (nat_eq z.node n) refl q in
      let g : GoesOn net new = record {
        stays = λ x y e. ap (λ ms. partner_in ms x) made_is ∙ e;
        is = λ x h e. (let i = stepped.is_lost_now net n s here pair more c x h (nat_eq x.node n) refl e in
            let o : Onto h (gone_of h i.0) = record { pair = refl; gone = i.2; ended = λ e. e } in
            (gone_of h i.0, i.1, o));
      } in
      let old : SendsToPartner net z r.0 = known z r.0 r.1 (ap (λ (i : Holder). i.asked) r.3 ∙ asked) w (sym (ap (λ ms. opened_window (told_to ms z)) made_is) ∙ lasts) in
      carried net new z r.0 j g (ap (λ (i : Holder). i.end.to) (sym r.3)) old

  one : (h : Holder) → InEnds h s.ends → end_of h.id s.ends ≡ Some h
  one = (k.sets n s here).one

  pub act_known : (a : Act) → Stays (set_step s a) → Timely allowance_at net.book (events_at n s.own (set_step s a).told) → Known (After (set_step s a))
  act_known (Connect dest now) stays time = step_cases s one P cases (Connect dest now) tt stays time
  act_known (ConnectFor user dest now) stays time = step_cases s one P cases (ConnectFor user dest now) tt stays time
  act_known (Comes d now) stays time = step_cases s one P cases (Comes d now) tt stays time
  act_known (Calls id call now) stays time = step_cases s one P cases (Calls id call now) tt stays time
  act_known (Discard id) stays time = step_cases s one P cases (Discard id) tt stays time
  act_known (Restart pair more) stays time = again_so pair more

-- ---- a run ----
step_case : (net : Net) (k : Kept net) (known : Known net) (st : Step) (o : Option SetState) → slice_get net.sets st.node ≡ o
    → ((x y : Name) → partner net.book x ≡ Some y → partner (with_events net.book (told_at net.sets st.node o st.act)) x ≡ Some y) → Timely allowance_at net.book (told_at net.sets st.node o st.act)
    → Known (record { sets = sets_at net.sets st.node o st.act; book = with_events net.book (told_at net.sets st.node o st.act) })
step_case net k known st None e stays time = known
step_case net k known st (Some s) e stays time = act_known net k known st.node s e st.act stays time

run_known : (net : Net) (steps later : List Step) → Kept net → Known net → AreSteps (steps ++ later) → Timely allowance_at net.book (events_of net.sets (steps ++ later)) → Known (net_run net steps)
run_known net [] later k known are time = known
run_known net (st ∷ sts) later k known are time =
    let told : List Event = told_at net.sets st.node (slice_get net.sets st.node) st.act in
    let parts = timely_parts allowance_at net.book told (events_of (sets_at net.sets st.node (slice_get net.sets st.node) st.act) (sts ++ later)) time in
    let next = step_kept net st k are.0 parts.0 in
    run_known (net_step net st) sts later next.0 (step_case net k known st (slice_get net.sets st.node) refl next.1 parts.0) are.1 parts.1

start_known : (sets : List SetState) → AreStarts sets → Known (begins sets)
start_known sets a x h e asked w lasts = let none : end_at (begins sets) x ≡ None = none_case sets x (slice_get sets x.node) a refl in let bad : None ≡ Some h = sym none ∙ e in cc

pub requesters_send : RequestersSend
requesters_send sets starts steps later are timely = run_known (begins sets) steps later (start_kept sets starts) (start_known sets starts) are timely
