-- Where the pairs that a node gives differ, no two notes of ends of one node have one pair.
use Rattle.std.specs.Prelude.{◌≡◌, ◌≢◌, ℕ, Bool, true, false, nat_eq, if◌then◌else◌, List, [], ◌∷◌, ◌++◌, Option}
use Rattle.std.specs.List.{AllByRecursion}
use Rattle.std.proofs.Common.{sym, ◌∙◌, ap, subst, arith, append_assoc, append-nil}
use Rattle.std.proofs.lemmas.Bool.Decides.{nat_tests}
use Rattle.radio_base.proofs.Each.{each_map}
use Rattle.ax_address.specs.Callsign.{Callsign}
use Rattle.circuit_l4.specs.declared.pair.Pair.{Pair}
use Rattle.circuit_l4.specs.declared.notice.EndNotice.{EndNotice}
use Rattle.circuit_set.specs.Books.{Book, MadeNote, with_event, with_events, with_notice}
use Rattle.circuit_table.specs.Events.{Event, Name, same_name}
use Rattle.circuit_table.specs.Givings.{pairs_made}
use Rattle.circuit_set.specs.Returning.{told_at_node}
use Rattle.circuit_table.specs.Sets.{Made, Sent, Heeded, Notice, Gone, Restarted, Lost, CircuitTold}
use Rattle.circuit_set.proofs.Differing.{Distinct, In, apart_of, given, given_append, in_first, in_here}

-- ---- what holds of each note ----
head_noticed : (P : MadeNote → Type 0) → ((m : MadeNote) (ts : List EndNotice) → P m → P (record m { told = ts })) → (n : EndNotice) (m : MadeNote) (b : Bool) → P m → P (if b then record m { told = m.told ++ n ∷ [] } else m)
head_noticed P keep n m true p = keep m (m.told ++ n ∷ []) p
head_noticed P keep n m false p = p

-- but for what was told since
pub each_noticed : (P : MadeNote → Type 0) → ((m : MadeNote) (ts : List EndNotice) → P m → P (record m { told = ts })) → (x : Name) (n : EndNotice) (ms : List MadeNote) → AllByRecursion P ms → AllByRecursion P (with_notice x n ms)
each_noticed P keep x n [] a = tt
each_noticed P keep x n (m ∷ ms) a = (head_noticed P keep n m (same_name m.who x) a.0, each_noticed P keep x n ms a.1)

-- ---- their pairs ----
-- each was given by its node
abbrev pub AreGiven : List Event → List MadeNote → Type 0
AreGiven es ms = AllByRecursion (λ (m : MadeNote). In m.pair (given m.who.node es)) ms

abbrev pub FarFrom : ℕ → Pair → List MadeNote → Type 0
FarFrom node pair ms = AllByRecursion (λ (q : MadeNote). q.who.node ≡ node → q.pair ≢ pair) ms

abbrev pub Unrepeated : List MadeNote → Type 0
Unrepeated [] = Unit {0}
Unrepeated (m ∷ ms) = FarFrom m.who.node m.pair ms × Unrepeated ms

far_noticed : (x : Name) (n : EndNotice) (m : MadeNote) (ms : List MadeNote) (b : Bool) → FarFrom m.who.node m.pair ms → (let q : MadeNote = if b then record m { told = m.told ++ n ∷ [] } else m in FarFrom q.who.node q.pair (with_notice x n ms))
far_noticed x n m ms true a = each_noticed (λ (q : MadeNote). q.who.node ≡ m.who.node → q.pair ≢ m.pair) (λ q ts p. p) x n ms a
far_noticed x n m ms false a = each_noticed (λ (q : MadeNote). q.who.node ≡ m.who.node → q.pair ≢ m.pair) (λ q ts p. p) x n ms a

unrepeated_noticed : (x : Name) (n : EndNotice) (ms : List MadeNote) → Unrepeated ms → Unrepeated (with_notice x n ms)
unrepeated_noticed x n [] u = tt
unrepeated_noticed x n (m ∷ ms) u = (far_noticed x n m ms (same_name m.who x) u.0, unrepeated_noticed x n ms u.1)

abbrev pub AllDiffer : List Event → Type 0
AllDiffer es = (n : ℕ) → Distinct (given n es)

given_one : (n : ℕ) (own : Callsign) (id : ℕ) (pair : Pair) (at : Callsign) (request : Option (List ℕ)) (es : List Event) → given n (record { node = n; own = own; told = Made id pair at request } ∷ es) ≡ pair ∷ given n es
given_one n own id pair at request es =
    let same : nat_eq n n ≡ true = grind (arith, nat_tests) in
    ap (λ b. pairs_made (if b then Made id pair at request ∷ told_at_node n es else told_at_node n es)) same

more_given : (es more : List Event) (ms : List MadeNote) → AreGiven es ms → AreGiven (es ++ more) ms
more_given es more ms a =
    each_map (λ (m : MadeNote). In m.pair (given m.who.node es)) (λ (m : MadeNote). In m.pair (given m.who.node (es ++ more)))
    (λ m i. subst (In m.pair) (sym (given_append m.who.node es more)) (in_first m.pair (given m.who.node es) (given m.who.node more) i)) ms a

-- a pair that is told is none of before
pub new_far : (es post : List Event) (n : ℕ) (own : Callsign) (id : ℕ) (pair : Pair) (at : Callsign) (request : Option (List ℕ)) (ms : List MadeNote)
    → AllDiffer (es ++ record { node = n; own = own; told = Made id pair at request } ∷ post) → AreGiven es ms → FarFrom n pair ms
new_far es post n own id pair at request ms all a =
    let e : Event = record { node = n; own = own; told = Made id pair at request } in
    let parts : given n (es ++ e ∷ post) ≡ given n es ++ pair ∷ given n post = given_append n es (e ∷ post) ∙ ap (λ ps. given n es ++ ps) (given_one n own id pair at request post) in
    let d : Distinct (given n es ++ pair ∷ given n post) = subst Distinct parts (all n) in
    each_map (λ (m : MadeNote). In m.pair (given m.who.node es)) (λ (m : MadeNote). m.who.node ≡ n → m.pair ≢ pair)
    (λ m i here. apart_of (given n es) (given n post) pair m.pair d (subst (λ k. In m.pair (given k es)) here i)) ms a

abbrev pub Differ : List Event → Book → Type 0
Differ es b = AreGiven es b.made × Unrepeated b.made

-- ---- one more event ----
told_differ : (es post : List Event) (n : ℕ) (own : Callsign) (t : CircuitTold) (b : Book) → AllDiffer (es ++ record { node = n; own = own; told = t } ∷ post) → Differ es b
    → (let e : Event = record { node = n; own = own; told = t } in Differ (es ++ e ∷ []) (with_event b e))
told_differ es post n own (Made id pair at request) b all d =
    let e : Event = record { node = n; own = own; told = Made id pair at request } in
    let is : given n (es ++ e ∷ []) ≡ given n es ++ pair ∷ [] = given_append n es (e ∷ []) ∙ ap (λ ps. given n es ++ ps) (given_one n own id pair at request []) in (
      (subst (In pair) (sym is) (in_here pair (given n es) []), more_given es (e ∷ []) b.made d.0),
      (new_far es post n own id pair at request b.made all d.0, d.1),
    )
told_differ es post n own (Notice id m) b all d =
    let e : Event = record { node = n; own = own; told = Notice id m } in (
      each_noticed (λ (q : MadeNote). In q.pair (given q.who.node (es ++ e ∷ []))) (λ q ts p. p) (record { node = n; id = id }) m b.made (more_given es (e ∷ []) b.made d.0),
      unrepeated_noticed (record { node = n; id = id }) m b.made d.1,
    )
told_differ es post n own (Sent id number s) b all d = (more_given es (record { node = n; own = own; told = Sent id number s } ∷ []) b.made d.0, d.1)
told_differ es post n own (Heeded id s) b all d = (more_given es (record { node = n; own = own; told = Heeded id s } ∷ []) b.made d.0, d.1)
told_differ es post n own (Gone id facts) b all d = (more_given es (record { node = n; own = own; told = Gone id facts } ∷ []) b.made d.0, d.1)
told_differ es post n own (Restarted pair) b all d = (more_given es (record { node = n; own = own; told = Restarted pair } ∷ []) b.made d.0, d.1)
told_differ es post n own (Lost id facts) b all d = (more_given es (record { node = n; own = own; told = Lost id facts } ∷ []) b.made d.0, d.1)

-- and more of them
pub events_differ : (es more post : List Event) (b : Book) → AllDiffer (es ++ (more ++ post)) → Differ es b → Differ (es ++ more) (with_events b more)
events_differ es [] post b all d = subst (λ xs. Differ xs b) (sym (append-nil es)) d
events_differ es (e ∷ more) post b all d =
    let now : Differ (es ++ e ∷ []) (with_event b e) = told_differ es (more ++ post) e.node e.own e.told b all d in
    let rest : Differ ((es ++ e ∷ []) ++ more) (with_events (with_event b e) more) =
    events_differ (es ++ e ∷ []) more post (with_event b e) (subst AllDiffer (sym (append_assoc es (e ∷ []) (more ++ post))) all) now in
    subst (λ xs. Differ xs (with_events (with_event b e) more)) (append_assoc es (e ∷ []) more) rest
