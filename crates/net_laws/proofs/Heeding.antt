-- What an end heeds, as the events tell, reached its node.
use Rattle.std.proofs.Common.{◌≡◌, ◌∙◌, ◌<◌, ℕ, zero, suc, ap, subst, arith, List, [], ◌∷◌, ◌++◌, length, map, inl, inr}
use Rattle.std.specs.Prelude.{◌⊎◌, slice_get, slice_index_or, Contains, Option, Some, None}
use Rattle.ax_address.specs.Callsign.{Callsign}
use Rattle.circuit_table.specs.Events as set_events
use Rattle.circuit_set.specs.Heedings.{HeedsFor, IsFor, SetsHeedPartners}
use Rattle.circuit_table.specs.Runs as net
use Rattle.circuit_table.specs.Runs.{Step, events_of}
use Rattle.circuit_table.specs.Sets as sets
use Rattle.circuit_table.specs.Sets.{Act, SetState, CircuitTold, set_step}

-- ---- lists

contains_split : {A : Type 0} (xs ys : List A) (x : A) → Contains (xs ++ ys) x → Contains xs x ⊎ Contains ys x
contains_split [] ys x c = inr c
contains_split {A} (y ∷ xs) ys x c = by c.0 c.1 c.2 (contains_split xs ys x)
  where
    later : Contains xs x ⊎ Contains ys x → Contains (y ∷ xs) x ⊎ Contains ys x
    later (inl a) = inl (suc a.0, (let low = a.1 in omega (arith, low)), a.2)
    later (inr a) = inr a

    by : (k : ℕ) → k < length (y ∷ (xs ++ ys)) → slice_index_or (y ∷ (xs ++ ys)) k x ≡ x → (Contains (xs ++ ys) x → Contains xs x ⊎ Contains ys x) → Contains (y ∷ xs) x ⊎ Contains ys x
    by zero low is rest = inl (0, omega arith, is)
    by (suc k) low is rest = later (rest (k, omega (arith, low), is))

pub contains_map : {A B : Type 0} (f : A → B) (xs : List A) (x : A) → Contains xs x → Contains (map f xs) (f x)
contains_map f [] x c = let low = c.1 in absurd (omega (arith, low))
contains_map {A} {B} f (y ∷ xs) x c = by c.0 c.1 c.2 (contains_map f xs x)
  where
    by : (k : ℕ) → k < length (y ∷ xs) → slice_index_or (y ∷ xs) k x ≡ x → (Contains xs x → Contains (map f xs) (f x)) → Contains (map f (y ∷ xs)) (f x)
    by zero low is rest = (0, omega arith, ap f is)
    by (suc k) low is rest = let r = rest (k, omega (arith, low), is) in (suc r.0, (let l = r.1 in omega (arith, l)), r.2)

-- ---- one step

-- it came with this input, and is for an end of this set
abbrev Heeds : SetState → Act → ℕ → List ℕ → ℕ → set_events.Event → Type 0
Heeds s a id d node e = (now : ℕ) × (a ≡ sets.Comes d now) × (node ≡ e.node) × IsFor s a id d

one_heeds : (s : SetState) (a : Act) (node : ℕ) (own : Callsign) (t : CircuitTold) (ts : List CircuitTold) (e : set_events.Event) (id : ℕ) (d : List ℕ) → HeedsFor s a (t ∷ ts) → record { node = node; own = own; told = t } ≡ e
    → e.told ≡ sets.Heeded id d → Heeds s a id d node e
one_heeds s a node own (sets.Heeded id2 d2) ts e id d h is told =
    let both : sets.Heeded id2 d2 ≡ sets.Heeded id d = ap (λ (x : set_events.Event). x.told) is ∙ told in
    let octets : d2 ≡ d = cc both in
    let number : id2 ≡ id = cc both in
    (h.0.now, h.0.came ∙ ap (λ x. sets.Comes x h.0.now) octets, ap (λ (x : set_events.Event). x.node) is, subst (λ x. IsFor s a id x) octets (subst (λ k. IsFor s a k d2) number h.0))
one_heeds s a node own (sets.Sent id2 number d2) ts e id d h is told = absurd (cc (ap (λ (x : set_events.Event). x.told) is ∙ told))
one_heeds s a node own (sets.Made id2 pair partner request) ts e id d h is told = absurd (cc (ap (λ (x : set_events.Event). x.told) is ∙ told))
one_heeds s a node own (sets.Notice id2 notice) ts e id d h is told = absurd (cc (ap (λ (x : set_events.Event). x.told) is ∙ told))
one_heeds s a node own (sets.Gone id2 facts) ts e id d h is told = absurd (cc (ap (λ (x : set_events.Event). x.told) is ∙ told))
one_heeds s a node own (sets.Restarted pair) ts e id d h is told = absurd (cc (ap (λ (x : set_events.Event). x.told) is ∙ told))
one_heeds s a node own (sets.Lost id2 facts) ts e id d h is told = absurd (cc (ap (λ (x : set_events.Event). x.told) is ∙ told))

heeds_rest : (s : SetState) (a : Act) (t : CircuitTold) (ts : List CircuitTold) → HeedsFor s a (t ∷ ts) → HeedsFor s a ts
heeds_rest s a (sets.Heeded id2 d2) ts h = h.1
heeds_rest s a (sets.Sent id2 number d2) ts h = h
heeds_rest s a (sets.Made id2 pair partner request) ts h = h
heeds_rest s a (sets.Notice id2 notice) ts h = h
heeds_rest s a (sets.Gone id2 facts) ts h = h
heeds_rest s a (sets.Restarted pair) ts h = h
heeds_rest s a (sets.Lost id2 facts) ts h = h

step_heeds : (s : SetState) (a : Act) (node : ℕ) (own : Callsign) (ts : List CircuitTold) (e : set_events.Event) (id : ℕ) (d : List ℕ) → HeedsFor s a ts → Contains (net.events_at node own ts) e → e.told ≡ sets.Heeded id d
    → Heeds s a id d node e
step_heeds s a node own [] e id d h c told = let low = c.1 in absurd (omega (arith, low))
step_heeds s a node own (t ∷ ts) e id d h c told = by c.0 c.1 c.2 (λ f. step_heeds s a node own ts e id d (heeds_rest s a t ts h) f told)
  where
    by : (k : ℕ) → k < length (net.events_at node own (t ∷ ts)) → slice_index_or (net.events_at node own (t ∷ ts)) k e ≡ e → (Contains (net.events_at node own ts) e → Heeds s a id d node e) → Heeds s a id d node e
    by zero low is rest = one_heeds s a node own t ts e id d h is told
    by (suc k) low is rest = rest (k, omega (arith, low), is)

-- ---- a run

-- it came by a step at this node, and was for an end of the set there
abbrev CameIn : ℕ → ℕ → List ℕ → List Step → Type 0
CameIn node id d steps =
    (before : List Step) × (after : List Step) × (now : ℕ) × (steps ≡ before ++ record { node = node; act = sets.Comes d now } ∷ after) × (s : SetState) × (a : Act) × IsFor s a id d

module _ (heedings : SetsHeedPartners) where
  at_heeds : (ss : List SetState) (st : Step) (o : Option SetState) (e : set_events.Event) (id : ℕ) (d : List ℕ) → Contains (net.told_at ss st.node o st.act) e → e.told ≡ sets.Heeded id d
      → (s : SetState) × Heeds s st.act id d st.node e
  at_heeds ss st None e id d c told = let low = c.1 in absurd (omega (arith, low))
  at_heeds ss st (Some s) e id d c told = (s, step_heeds s st.act st.node s.own (set_step s st.act).told e id d (heedings s st.act) c told)

  -- the step by which it came
  pub heeded_came : (ss : List SetState) (steps : List Step) (e : set_events.Event) (id : ℕ) (d : List ℕ) → Contains (events_of ss steps) e → e.told ≡ sets.Heeded id d
      → (before : List Step) × (after : List Step) × (now : ℕ) × (steps ≡ before ++ record { node = e.node; act = sets.Comes d now } ∷ after) × (s : SetState) × (a : Act) × IsFor s a id d
  heeded_came ss [] e id d c told = let low = c.1 in absurd (omega (arith, low))
  heeded_came ss (st ∷ sts) e id d c told =
      by (contains_split (net.told_at ss st.node (slice_get ss st.node) st.act) (events_of (net.sets_at ss st.node (slice_get ss st.node) st.act) sts) e c)
      (λ f. heeded_came (net.sets_at ss st.node (slice_get ss st.node) st.act) sts e id d f told)
    where
      by : Contains (net.told_at ss st.node (slice_get ss st.node) st.act) e ⊎ Contains (events_of (net.sets_at ss st.node (slice_get ss st.node) st.act) sts) e
          → (Contains (events_of (net.sets_at ss st.node (slice_get ss st.node) st.act) sts) e → CameIn e.node id d sts) → CameIn e.node id d (st ∷ sts)
      by (inl f) rest =
          let h = at_heeds ss st (slice_get ss st.node) e id d f told in
          ([], sts, h.1.0, ap (λ a. record { node = st.node; act = a } ∷ sts) h.1.1 ∙ ap (λ n. record { node = n; act = sets.Comes d h.1.0 } ∷ sts) h.1.2, h.0, st.act, h.1.3)
      by (inr f) rest = let r = rest f in (st ∷ r.0, r.1, r.2, ap (λ xs. st ∷ xs) r.3, r.4, r.5, r.6)
