-- Where no node starts again and none gives a pair twice, a copy of a connect request alone can break Fresh.
use Rattle.std.specs.Prelude.{◌≡◌, ℕ, zero, suc, ◌<◌, true, ◌&&◌, ◌||◌, if◌then◌else◌, List, [], ◌∷◌, ◌++◌, length, get_or, slice_get, Option, Some, None, refl}
use Rattle.std.specs.List.{AllByRecursion}
use Rattle.std.proofs.Common.{sym, ◌∙◌, ap, subst, inl, inr, arith, append_assoc, append-nil}
use Rattle.std.proofs.Math.Bool.{or-true}
use Rattle.ax_address.specs.Callsign.{Callsign}
use Rattle.circuit_l4.specs.declared.pair.Pair.{Pair}
use Rattle.circuit_l4.specs.declared.role.Role.{Role}
use Rattle.circuit_l4.specs.State.{Effect}
use Rattle.circuit_set.specs.Books.{Book, empty, has_sent, lost_with, with_event, with_events}
use Rattle.circuit_table.specs.Events.{Event, Name, is_copy, same_name}
use Rattle.circuit_set.specs.NotedRuns.{Net, begins, net_step}
use Rattle.circuit_table.specs.Givings.{IsUp, pairs_made}
use Rattle.circuit_set.specs.Returning.{CopiesAloneReturn, FreshButFrom, IsUnbroken, WasSent}
use Rattle.circuit_table.specs.Runs.{AreSteps, IsAct, Step, events_at, events_of, sets_at, told_at}
use Rattle.circuit_table.specs.Sets.{Act, Comes, Made, Sent, Heeded, Notice, Gone, Restarted, Lost, Holder, SetDone, SetState, CircuitTold, holder_of, makes_end, new_pair, set_step, told_by}
use Rattle.circuit_set.proofs.Askers.{asked_or_returned, no_other}
use Rattle.circuit_set.proofs.Bridge.{name_itself}
use Rattle.circuit_set.proofs.Cases.{Every, MadeBy, Opener, step_every}
use Rattle.circuit_set.proofs.Differing.{given_differ}
use Rattle.circuit_set.proofs.Given.{heard_none, none_append, one, told_none}
use Rattle.circuit_set.proofs.Knowing.{Known}
use Rattle.circuit_set.proofs.Learning.{start_known, step_known}
use Rattle.circuit_set.proofs.Leaving.{GoneEnded, start_left, step_left}
use Rattle.circuit_set.proofs.NamesOne.{lost_all}
use Rattle.circuit_set.proofs.Noting.{noted_append}
use Rattle.circuit_set.proofs.Retries.{Both, start_lives, step_lives}
use Rattle.circuit_set.proofs.Unrepeated.{AllDiffer, Differ, FarFrom, events_differ, new_far}

-- ---- what is told ----
fresh_append : (b : Book) (lost : List Name) (xs ys : List Event) → FreshButFrom b lost xs → FreshButFrom (with_events b xs) (lost_all lost xs) ys → FreshButFrom b lost (xs ++ ys)
fresh_append b lost [] ys p q = q
fresh_append b lost (x ∷ xs) ys p q = (p.0, fresh_append (with_event b x) (lost_with lost x.node x.told) xs ys p.1 q)

-- where no end is made all is fresh
none_made : (ts : List CircuitTold) (b : Book) (lost : List Name) (n : ℕ) (own : Callsign) → pairs_made ts ≡ [] → FreshButFrom b lost (events_at n own ts)
none_made [] b lost n own e = tt
none_made (Made id pair at request ∷ ts) b lost n own e = cc
none_made (Sent id number d ∷ ts) b lost n own e = (inl tt, none_made ts _ _ n own e)
none_made (Heeded id d ∷ ts) b lost n own e = (inl tt, none_made ts _ _ n own e)
none_made (Notice id m ∷ ts) b lost n own e = (inl tt, none_made ts _ _ n own e)
none_made (Gone id facts ∷ ts) b lost n own e = (inl tt, none_made ts _ _ n own e)
none_made (Restarted pair ∷ ts) b lost n own e = (inl tt, none_made ts _ _ n own e)
none_made (Lost id facts ∷ ts) b lost n own e = (inl tt, none_made ts _ _ n own e)

-- ---- what was sent ----
-- what was sent stays so
still_sent : (b : Book) (e : Event) (x : Name) (d : List ℕ) → has_sent b.sent x d ≡ true → has_sent (with_event b e).sent x d ≡ true
still_sent b e x d h = by e.told
  where
    by : (t : CircuitTold) → has_sent (with_event b (record { node = e.node; own = e.own; told = t })).sent x d ≡ true
    by (Made id pair at request) = h
    by (Sent id number s) = ap (λ v. (same_name (record { node = e.node; id = id }) x && is_copy d s) || v) h ∙ or-true (same_name (record { node = e.node; id = id }) x && is_copy d s)
    by (Heeded id s) = h
    by (Notice id m) = h
    by (Gone id facts) = h
    by (Restarted pair) = h
    by (Lost id facts) = h

all_sent : (es : List Event) (b : Book) (x : Name) (d : List ℕ) → has_sent b.sent x d ≡ true → has_sent (with_events b es).sent x d ≡ true
all_sent [] b x d h = h
all_sent (e ∷ es) b x d h = all_sent es (with_event b e) x d (still_sent b e x d h)

told_sent : (es : List Event) (b : Book) (i node id : ℕ) (own : Callsign) (number : Option ℕ) (s d : List ℕ)
    → (let e : Event = record { node = node; own = own; told = Sent id number s } in i < length es → get_or es i e ≡ e → is_copy d s ≡ true → has_sent (with_events b es).sent (record { node = node; id = id }) d ≡ true)
told_sent [] b i node id own number s d l e c = absurd (omega arith)
told_sent (x ∷ es) b zero node id own number s d l e c =
    let now : Event = record { node = node; own = own; told = Sent id number s } in
    let name : Name = record { node = node; id = id } in
    let here : has_sent (with_event b now).sent name d ≡ true =
    ap (λ v. (v && is_copy d s) || has_sent b.sent name d) (name_itself name) ∙ ap (λ v. v || has_sent b.sent name d) c in
    subst (λ (y : Event). has_sent (with_events (with_event b y) es).sent name d ≡ true) (sym e) (all_sent es (with_event b now) name d here)
told_sent (x ∷ es) b (suc i) node id own number s d l e c = told_sent es (with_event b x) i node id own number s d (omega arith) e c

-- ---- a step ----
module _ (net : Net) (k : Known net) (left : GoneEnded net) (both : Both net) (before : List Event) (differ : Differ before net.book) (lost : List Name) (n : ℕ) (s : SetState) (here : slice_get net.sets n ≡ Some s) (a : Act)
    (sent : (d : List ℕ) (now : ℕ) → a ≡ Comes d now → (x : Name) × (has_sent net.book.sent x d ≡ true)) where
  abbrev P : SetDone → Type 0
  P done = (post : List Event) → AllDiffer (before ++ (events_at n s.own done.told ++ post)) → FreshButFrom net.book lost (events_at n s.own done.told)

  request_case : (at : Callsign) (role : Role) (p : Option Pair) (request : Option (List ℕ)) (id : ℕ) (pair : Pair) → MadeBy s a at role p request → FarFrom n pair net.book.made
      → (b : Book) → FreshButFrom b lost [] → FreshButFrom net.book lost (record { node = n; own = s.own; told = Made id pair at request } ∷ [])
  request_case at role None None id pair by far b f = (inl (tt, no_other net k left both.1 differ.1 n s here lost pair far), tt)
  request_case at role (Some p) (Some d) id pair by far b f =
      let o : Opener s a at p d = by.0 in
      let x = sent d o.comer.now o.comer.came in (
        elim (asked_or_returned net k left both.1 differ.1 n s here a at p d o x.0 x.1) [
          | inl r ↦ inl (r, no_other net k left both.1 differ.1 n s here lost pair far)
          | inr r ↦ inr r
        ],
        tt,
      )
  request_case at role None (Some d) id pair by far b f = absurd by
  request_case at role (Some p) None id pair by far b f = absurd by

  makes_so : (at : Callsign) (asked : Option Pair) (request : Option (List ℕ)) (g : Effect) → MadeBy s a at g.end.role asked request → P (makes_end s at asked request g)
  makes_so at asked request g by post all =
      let h : Holder = holder_of s at asked g in
      let e : Event = record { node = n; own = s.own; told = Made s.number (new_pair s) at request } in
      let rest : List Event = events_at n s.own (told_by s h g) in
      let far : FarFrom n (new_pair s) net.book.made = new_far before (rest ++ post) n s.own s.number (new_pair s) at request net.book.made all differ.0 in
      fresh_append net.book lost (e ∷ []) rest (request_case at g.end.role asked request s.number (new_pair s) by far net.book tt)
      (none_made (told_by s h g) (with_event net.book e) lost n s.own (told_none s h g))

  every : Every s a P
  every = record {
    rests = λ idle post all. tt;
    refuses = λ at pair call none post all. (inl tt, tt);
    moves = λ h heeded d g there held same ends says lives asks by post all.
        none_made ((if heeded then Heeded h.id d ∷ [] else []) ++ told_by s h g) net.book lost n s.own
        (none_append (if heeded then Heeded h.id d ∷ [] else []) (told_by s h g) (heard_none heeded h.id d) (told_none s h g));
    leaves = λ h there held ended none post all. (inl tt, tt);
    makes = λ at asked request g new by asks. makes_so at asked request g by;
  }

  pub act_fresh : IsUp a → P (set_step s a)
  act_fresh up = step_every s (one s (both.0 n s here)) a P every up

-- ---- a run ----
-- what a step tells is fresh, and what is known is known after it, and that each end which is gone has ended
abbrev StepOk : Net → List Event → List Name → Step → Option SetState → List Event → Type 0
StepOk net before lost st o post =
    let told : List Event = told_at net.sets st.node o st.act in
    AllDiffer (before ++ (told ++ post)) →
    FreshButFrom net.book lost told × Known (record { sets = sets_at net.sets st.node o st.act; book = with_events net.book told })
    × GoneEnded (record { sets = sets_at net.sets st.node o st.act; book = with_events net.book told })

step_fresh : (net : Net) (k : Known net) (left : GoneEnded net) (both : Both net) (before : List Event) (differ : Differ before net.book) (lost : List Name) (st : Step)
    → ((d : List ℕ) (now : ℕ) → st.act ≡ Comes d now → (x : Name) × (has_sent net.book.sent x d ≡ true)) → IsAct st.act → IsUp st.act → (o : Option SetState) → slice_get net.sets st.node ≡ o → (post : List Event) → StepOk net before lost st o post
step_fresh net k left both before differ lost st sent is up None e post all = (tt, k, left)
step_fresh net k left both before differ lost st sent is up (Some s) e post all = (
  act_fresh net k left both before differ lost st.node s e st.act sent up post all,
  step_known net k st.node s e (both.0 st.node s e) st.act is,
  step_left net left st.node s e (both.0 st.node s e) st.act up,
)

module _ (sets : List SetState) (steps : List Step) (unbroken : IsUnbroken sets steps) (all : AllDiffer (events_of sets steps)) where
  -- where the run stands after some of its steps
  record Stands (done : List Step) (net : Net) : Type 0 where
    book : net.book ≡ with_events empty (events_of sets done)
    goes : (more : List Step) → events_of sets (done ++ more) ≡ events_of sets done ++ events_of net.sets more
    known : Known net
    left : GoneEnded net
    both : Both net
    differ : Differ (events_of sets done) net.book

  sent_before : (done sts : List Step) (net : Net) (st : Step) → Stands done net → steps ≡ done ++ st ∷ sts → (d : List ℕ) (now : ℕ) → st.act ≡ Comes d now → (x : Name) × (has_sent net.book.sent x d ≡ true)
  sent_before done sts net st k e d now came =
      let at : steps ≡ done ++ (let c : Step = record { node = st.node; act = Comes d now } in c) ∷ sts = e ∙ ap (λ a. done ++ (let c : Step = record { node = st.node; act = a } in c) ∷ sts) came in
      let w : WasSent (events_of sets done) d = unbroken.sent done sts st.node now d at in
      let x : Name = record { node = w.node; id = w.id } in
      (x, subst (λ (b : Book). has_sent b.sent x d ≡ true) (sym k.book) (told_sent (events_of sets done) empty w.told.0 w.node w.id w.own w.number w.sent d w.told.1 w.told.2 w.copy))

  run_fresh : (rest done : List Step) (net : Net) (lost : List Name) → Stands done net → steps ≡ done ++ rest → AreSteps rest → AllByRecursion (λ (st : Step). IsUp st.act) rest → FreshButFrom net.book lost (events_of net.sets rest)
  run_fresh [] done net lost k e are up = tt
  run_fresh (st ∷ sts) done net lost k e are up =
      let told : List Event = told_at net.sets st.node (slice_get net.sets st.node) st.act in
      let next : Net = net_step net st in
      let post : List Event = events_of next.sets sts in
      let whole : events_of sets steps ≡ events_of sets done ++ (told ++ post) = ap (events_of sets) e ∙ k.goes (st ∷ sts) in
      let r = step_fresh net k.known k.left k.both (events_of sets done) k.differ lost st (sent_before done sts net st k e) are.0 up.0 (slice_get net.sets st.node) refl post (subst AllDiffer whole all) in
      let one : events_of sets (done ++ st ∷ []) ≡ events_of sets done ++ told = k.goes (st ∷ []) ∙ ap (λ es. events_of sets done ++ es) (append-nil told) in
      let stands : Stands (done ++ st ∷ []) next = record {
        book = ap (λ (b : Book). with_events b told) k.book ∙ sym (noted_append empty (events_of sets done) told) ∙ ap (with_events empty) (sym one);
        goes = λ more.
            ap (events_of sets) (append_assoc done (st ∷ []) more) ∙ k.goes (st ∷ more) ∙ sym (append_assoc (events_of sets done) told (events_of next.sets more))
            ∙ ap (λ es. es ++ events_of next.sets more) (sym one);
        known = r.1;
        left = r.2;
        both = step_lives net st (slice_get net.sets st.node) k.both refl;
        differ = subst (λ es. Differ es next.book) (sym one) (events_differ (events_of sets done) told post net.book (subst AllDiffer whole all) k.differ);
      } in
      fresh_append net.book lost told post r.0
      (run_fresh sts (done ++ st ∷ []) next (lost_all lost told) stands (e ∙ sym (append_assoc done (st ∷ []) sts)) are.1 up.1)

pub copies_alone_return : CopiesAloneReturn
copies_alone_return sets starts steps are unbroken =
    let all : AllDiffer (events_of sets steps) = given_differ sets steps starts unbroken.up unbroken.few in
    run_fresh sets steps unbroken all steps [] (begins sets) []
    (record { book = refl; goes = λ more. refl; known = start_known sets starts unbroken.apart; left = start_left sets starts; both = start_lives sets starts; differ = (tt, tt) }) refl are unbroken.up
