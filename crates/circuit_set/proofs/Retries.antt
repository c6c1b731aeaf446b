-- In every run each end has come where it is by its inputs alone, and was told what they tell.
use Rattle.std.specs.Prelude.{◌≡◌, ℕ, suc, ◌⊎◌, ◌||◌, Bool, true, false, nat_eq, if◌then◌else◌, List, [], ◌∷◌, ◌++◌, slice_get, slice_set, Option, Some, None, refl}
use Rattle.std.proofs.Common.{sym, ◌∙◌, ap, subst, inl, inr}
use Rattle.ax_address.specs.Callsign.{Callsign}
use Rattle.circuit_l4.specs.declared.pair.Pair.{Pair}
use Rattle.circuit_l4.specs.declared.notice.EndNotice.{EndNotice}
use Rattle.circuit_l4.specs.State.{Effect, State}
use Rattle.circuit_l4.specs.Opening.{facts_of}
use Rattle.circuit_table.specs.Sets.{Act, Calls, Comes, Connect, ConnectFor, Discard, Restart, Made, Sent, Heeded, Gone, Restarted, Holder, SetDone, SetState, end_of, goes_to, holder_of, is_over, losses, makes_end, new_pair, after_restart, set_step, told_by, with_end}
use Rattle.circuit_set.specs.Books.{Book, with_event, with_events}
use Rattle.circuit_table.specs.Events.{Name}
use Rattle.circuit_set.specs.NotedRuns.{Net, begins, end_at, told_to}
use Rattle.circuit_table.specs.Runs.{AreStarts, Step, events_at, sets_at, told_at}
use Rattle.circuit_set.proofs.Acts.{set_self}
use Rattle.circuit_set.proofs.Bridge.{name_itself}
use Rattle.circuit_set.proofs.Cases.{Cases, IsNew, Lives, Says, step_cases}
use Rattle.circuit_set.proofs.Ended.{Ends}
use Rattle.circuit_set.proofs.Given.{Numbers, none_of, one, start_numbers, step_numbers}
use Rattle.circuit_set.proofs.Invariant.{Lived}
use Rattle.circuit_set.proofs.Lookups.{has_note, not_same}
use Rattle.circuit_set.proofs.Moved.{same_or}
use Rattle.circuit_set.proofs.Noting.{all_noticed, none_noticed, same_notes, told_noted, with_notices}
use Rattle.circuit_set.proofs.Restarts.{noted_losses}
use Rattle.circuit_set.proofs.Safe.{none_case, starts_at}
use Rattle.circuit_set.proofs.Stepped as stepped
use Rattle.circuit_set.proofs.Stepped.{same_holder}
use Rattle.circuit_table.proofs.Names.{SameEnd}

pub record LivesOn (net : Net) (x : Name) (h : Holder) : Type 0 where
  pub note : has_note net.book.made x ≡ true
  pub lived : Lived h.end (told_to net.book.made x)

abbrev pub AllLive : Net → Type 0
AllLive net = (x : Name) (h : Holder) → end_at net x ≡ Some h → LivesOn net x h

abbrev pub SetsOk : Net → Type 0
SetsOk net = (n : ℕ) (s : SetState) → slice_get net.sets n ≡ Some s → Numbers s

module _ (net : Net) (sets : SetsOk net) (live : AllLive net) (n : ℕ) (s : SetState) (here : slice_get net.sets n ≡ Some s) where
  abbrev After : SetDone → Net
  After done = record { sets = slice_set net.sets n done.set; book = with_events net.book (events_at n s.own done.told) }

  abbrev P : SetDone → Type 0
  P done = AllLive (After done)

  heeded_made : (h : Holder) (b : Bool) (d : List ℕ) (g : Effect)
      → (with_events net.book (events_at n s.own ((if b then Heeded h.id d ∷ [] else []) ++ told_by s h g))).made ≡ with_notices (record { node = n; id = h.id }) g.notes net.book.made
  heeded_made h true d g = (told_noted s n s.own h g (with_event net.book (record { node = n; own = s.own; told = Heeded h.id d }))).made
  heeded_made h false d g = (told_noted s n s.own h g net.book).made

  -- ---- an end that was made ----
  changed : (h : Holder) (e : State) (over : Bool) (c : Book) (notes : List EndNotice) → end_of h.id s.ends ≡ Some h → c.made ≡ with_notices (record { node = n; id = h.id }) notes net.book.made
      → ((ns : List EndNotice) → Lived h.end ns → Lived e (ns ++ notes)) → (z : Name) (j : Holder)
      → (let to : Holder = record { id = h.id; at = h.at; asked = h.asked; end = e; gone = over } in
      let new : Net = record { sets = slice_set net.sets n (record s { ends = with_end to s.ends }); book = c } in
      end_at new z ≡ Some j → ((let x : Name = record { node = n; id = h.id } in x) ≡ z) ⊎ ((let x : Name = record { node = n; id = h.id } in x) ≡ z → ⊥) → LivesOn new z j)
  changed h e over c notes there made lives z j q (inl same) =
      let x : Name = record { node = n; id = h.id } in
      let to : Holder = record { id = h.id; at = h.at; asked = h.asked; end = e; gone = over } in
      let new : Net = record { sets = slice_set net.sets n (record s { ends = with_end to s.ends }); book = c } in
      let is : to ≡ j = same_holder to j (end_at new z) (subst (λ w. end_at new w ≡ Some to) same (stepped.end_now net n s here h e over c there)) q in
      let o : LivesOn net x h = live x h (stepped.end_then net n s here h e over c there) in
      let note : has_note c.made x ≡ true = ap (λ ms. has_note ms x) made ∙ same_notes x x notes net.book.made ∙ o.note in
      let told : told_to c.made x ≡ told_to net.book.made x ++ notes = ap (λ ms. told_to ms x) made ∙ all_noticed x notes net.book.made o.note in
      let now : LivesOn new x to = record { note = note; lived = subst (λ ns. Lived e ns) (sym told) (lives (told_to net.book.made x) o.lived) } in
      subst (λ w. LivesOn new w j) same (subst (λ (i : Holder). LivesOn new x i) is now)
  changed h e over c notes there made lives z j q (inr far) =
      let x : Name = record { node = n; id = h.id } in
      let o : LivesOn net z j = live z j (sym (stepped.end_beside net n s here h e over c there z far) ∙ q) in
      let told : told_to c.made z ≡ told_to net.book.made z = ap (λ ms. told_to ms z) made ∙ none_noticed x z notes net.book.made far in
      record { note = ap (λ ms. has_note ms z) made ∙ same_notes x z notes net.book.made ∙ o.note; lived = subst (λ ns. Lived j.end ns) (sym told) o.lived }

  moves_so : (h : Holder) (b : Bool) (d : List ℕ) (g : Effect) → end_of h.id s.ends ≡ Some h → h.gone ≡ false → SameEnd h.end g.end → Ends h.end g → Says h b d g → Lives h.end g
      → P (goes_to s h (if b then Heeded h.id d ∷ [] else []) g)
  moves_so h b d g there held same ends says lives z j q =
      changed h g.end (is_over g.end) (with_events net.book (events_at n s.own ((if b then Heeded h.id d ∷ [] else []) ++ told_by s h g))) g.notes there (heeded_made h b d g) lives z j q
      (same_or (record { node = n; id = h.id }) z)

  nil_right : (ns : List EndNotice) → ns ++ [] ≡ ns
  nil_right [] = refl
  nil_right (m ∷ ns) = ap (λ ms. m ∷ ms) (nil_right ns)

  leaves_so : (h : Holder) → end_of h.id s.ends ≡ Some h → h.gone ≡ false
      → P (record { set = record s { ends = with_end (record h { gone = true }) s.ends }; told = Gone h.id (facts_of h.end) ∷ [] })
  leaves_so h there held z j q =
      changed h h.end true (with_events net.book (events_at n s.own (Gone h.id (facts_of h.end) ∷ []))) [] there refl (λ ns l. subst (λ ms. Lived h.end ms) (sym (nil_right ns)) l) z j q
      (same_or (record { node = n; id = h.id }) z)

  refused_so : (d : List ℕ) → P (record { set = s; told = Sent 0 None d ∷ [] })
  refused_so d =
      let c : Book = with_event net.book (record { node = n; own = s.own; told = Sent 0 None d }) in
      let now : AllLive (record { sets = net.sets; book = c }) = λ x h e. (let o : LivesOn net x h = live x h e in record { note = o.note; lived = o.lived }) in
      subst (λ ss. AllLive (record { sets = ss; book = c })) (sym (set_self net.sets n s here)) now

  -- ---- an end that is made ----
  new_case : (at : Callsign) (asked : Option Pair) (request : Option (List ℕ)) (g : Effect) → IsNew s asked request g → (z : Name) (j : Holder) → end_at (After (makes_end s at asked request g)) z ≡ Some j
      → ((let y : Name = record { node = n; id = s.number } in y) ≡ z) ⊎ ((let y : Name = record { node = n; id = s.number } in y) ≡ z → ⊥) → LivesOn (After (makes_end s at asked request g)) z j
  new_case at asked request g new z j q (inl same) =
      let h : Holder = holder_of s at asked g in
      let y : Name = record { node = n; id = s.number } in
      let b : Book = with_event net.book (record { node = n; own = s.own; told = Made s.number (new_pair s) at request }) in
      let c : Book = with_events b (events_at n s.own (told_by s h g)) in
      let none_yet : end_of s.number s.ends ≡ None = none_of s.number s.ends (sets n s here).below in
      let made_is : c.made ≡ with_notices y g.notes b.made = (told_noted s n s.own h g b).made in
      let noted_y : has_note b.made y ≡ true = ap (λ v. v || has_note net.book.made y) (name_itself y) in
      let is : h ≡ j = same_holder h j (end_at (After (makes_end s at asked request g)) z) (subst (λ w. end_at (After (makes_end s at asked request g)) w ≡ Some h) same (stepped.end_here net n s here (makes_end s at asked request g).set h c refl refl none_yet)) q in
      let told : told_to c.made y ≡ g.notes = ap (λ ms. told_to ms y) made_is ∙ all_noticed y g.notes b.made noted_y ∙ ap (λ v. (if v then [] else told_to net.book.made y) ++ g.notes) (name_itself y) in
      let now : LivesOn (After (makes_end s at asked request g)) y h = record {
        note = ap (λ ms. has_note ms y) made_is ∙ same_notes y y g.notes b.made ∙ noted_y;
        lived = subst (λ ns. Lived g.end ns) (sym told) new.lives;
      } in
      subst (λ w. LivesOn (After (makes_end s at asked request g)) w j) same (subst (λ (i : Holder). LivesOn (After (makes_end s at asked request g)) y i) is now)
  new_case at asked request g new z j q (inr far) =
      let h : Holder = holder_of s at asked g in
      let y : Name = record { node = n; id = s.number } in
      let b : Book = with_event net.book (record { node = n; own = s.own; told = Made s.number (new_pair s) at request }) in
      let c : Book = with_events b (events_at n s.own (told_by s h g)) in
      let none_yet : end_of s.number s.ends ≡ None = none_of s.number s.ends (sets n s here).below in
      let made_is : c.made ≡ with_notices y g.notes b.made = (told_noted s n s.own h g b).made in
      let o : LivesOn net z j = live z j (sym (stepped.end_other net n s here (makes_end s at asked request g).set h c refl refl none_yet z far) ∙ q) in
      let told : told_to c.made z ≡ told_to net.book.made z = ap (λ ms. told_to ms z) made_is ∙ none_noticed y z g.notes b.made far ∙ ap (λ v. if v then [] else told_to net.book.made z) (not_same y z far) in
      let note : has_note c.made z ≡ true = ap (λ ms. has_note ms z) made_is ∙ same_notes y z g.notes b.made ∙ ap (λ v. v || has_note net.book.made z) (not_same y z far) ∙ o.note in
      record { note = note; lived = subst (λ ns. Lived j.end ns) (sym told) o.lived }

  cases : Cases s P
  cases = record {
    rests = subst (λ ss. AllLive (record { sets = ss; book = net.book })) (sym (set_self net.sets n s here)) live;
    refuses = refused_so;
    moves = moves_so;
    leaves = leaves_so;
    makes = λ at asked request g new z j q. new_case at asked request g new z j q (same_or (record { node = n; id = s.number }) z);
  }

  -- ---- the node starts again ----
  again_so : (pair : Pair) (more : ℕ) → AllLive (After (after_restart s pair more))
  again_so pair more z j q =
      let c : Book = with_events net.book (events_at n s.own (Restarted pair ∷ losses s.ends)) in
      let b : Book = record { places = suc net.book.places; made = net.book.made; sent = net.book.sent; heard = net.book.heard } in
      let made_is : c.made ≡ net.book.made = ap (λ (a : Book). a.made) (noted_losses n s.own s.ends b).2 in
      let r = stepped.was_lost net n s here pair more c z j (nat_eq z.node n) refl q in
      let o : LivesOn net z r.0 = live z r.0 r.1 in
      let lived : Lived r.0.end (told_to c.made z) = subst (λ ns. Lived r.0.end ns) (sym (ap (λ ms. told_to ms z) made_is)) o.lived in
      record { note = ap (λ ms. has_note ms z) made_is ∙ o.note; lived = subst (λ (i : Holder). Lived i.end (told_to c.made z)) r.3 lived }

  act_lives : (a : Act) → AllLive (After (set_step s a))
  act_lives (Connect dest now) = step_cases s (one s (sets n s here)) P cases (Connect dest now) tt
  act_lives (ConnectFor user dest now) = step_cases s (one s (sets n s here)) P cases (ConnectFor user dest now) tt
  act_lives (Comes d now) = step_cases s (one s (sets n s here)) P cases (Comes d now) tt
  act_lives (Calls id call now) = step_cases s (one s (sets n s here)) P cases (Calls id call now) tt
  act_lives (Discard id) = step_cases s (one s (sets n s here)) P cases (Discard id) tt
  act_lives (Restart pair more) = again_so pair more

  act_sets : (a : Act) → SetsOk (After (set_step s a))
  act_sets a i u e = stepped.each_set net n s here Numbers (set_step s a).set (step_numbers s (sets n s here) a) sets i u (nat_eq i n) refl e

-- ---- a run ----
abbrev pub Both : Net → Type 0
Both net = SetsOk net × AllLive net

pub step_lives : (net : Net) (st : Step) (o : Option SetState) → Both net → slice_get net.sets st.node ≡ o → Both (record { sets = sets_at net.sets st.node o st.act; book = with_events net.book (told_at net.sets st.node o st.act) })
step_lives net st None b e = b
step_lives net st (Some s) b e = (act_sets net b.0 b.1 st.node s e st.act, act_lives net b.0 b.1 st.node s e st.act)

pub start_lives : (sets : List SetState) → AreStarts sets → Both (begins sets)
start_lives sets a = (
  λ n s e. start_numbers s (starts_at sets n s a e),
  λ x h e. (let none : end_at (begins sets) x ≡ None = none_case sets x (slice_get sets x.node) a refl in let bad : None ≡ Some h = sym none ∙ e in cc),
)
