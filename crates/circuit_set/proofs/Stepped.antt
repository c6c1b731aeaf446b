-- The ends of a run where one end was changed, where one was made, and where a node has started again.
use Rattle.std.specs.Prelude.{◌≡◌, ◌≢◌, ℕ, ◌⊎◌, Bool, true, false, nat_eq, if◌then◌else◌, [], ◌∷◌, ◌++◌, slice_get, slice_set, Option, Some, None, refl}
use Rattle.std.proofs.Common.{sym, ◌∙◌, ap, subst, inl, inr, arith}
use Rattle.std.proofs.lemmas.Bool.Decides.{nat_tests}
use Rattle.circuit_l4.specs.declared.pair.Pair.{Pair}
use Rattle.circuit_l4.specs.State.{State}
use Rattle.circuit_table.specs.Sets.{Holder, SetState, end_of, has_ended, after_restart, with_end}
use Rattle.circuit_set.specs.Books.{Book}
use Rattle.circuit_table.specs.Events.{Name}
use Rattle.circuit_set.specs.NotedRuns.{Net, end_at}
use Rattle.circuit_table.specs.Runs.{end_in}
use Rattle.circuit_set.proofs.Lookups.{end_kept, end_new, set_other, set_same}
use Rattle.circuit_set.proofs.Noting.{end_at_other, end_at_same}
use Rattle.circuit_set.proofs.Restarts.{gone_of, is_end, was_end}

-- the end that was and the one that is
pub record Onto (h to : Holder) : Type 0 where
  pub pair : to.end.pair ≡ h.end.pair
  pub gone : h.gone ≡ true → to.gone ≡ true
  pub ended : has_ended h.end.phase ≡ true → has_ended to.end.phase ≡ true

pub onto_itself : (h : Holder) → Onto h h
onto_itself h = record { pair = refl; gone = λ e. e; ended = λ e. e }

pub same_holder : (i j : Holder) (o : Option Holder) → o ≡ Some i → o ≡ Some j → i ≡ j
same_holder i j o e q = let two : Some i ≡ Some j = sym e ∙ q in cc

module _ (net : Net) (n : ℕ) (s : SetState) (here : slice_get net.sets n ≡ Some s) where
  -- a property of each set
  pub each_set : (P : SetState → Type 0) (t : SetState) → P t → ((i : ℕ) (u : SetState) → slice_get net.sets i ≡ Some u → P u)
      → (i : ℕ) (u : SetState) (b : Bool) → nat_eq i n ≡ b → slice_get (slice_set net.sets n t) i ≡ Some u → P u
  each_set P t now old i u true q e =
      let same : i ≡ n = grind (arith, nat_tests) in
      let two : Some t ≡ Some u = sym (set_same net.sets n s t here) ∙ subst (λ w. slice_get (slice_set net.sets n t) w ≡ Some u) same e in
      let is : t ≡ u = cc in
      subst P is now
  each_set P t now old i u false q e = let far : i ≢ n = grind (arith, nat_tests) in old i u (sym (set_other net.sets n i t far) ∙ e)

  -- each node's call stays
  pub own_stays : (t : SetState) → t.own ≡ s.own → (i : ℕ) (u : SetState) (b : Bool) → nat_eq i n ≡ b → slice_get net.sets i ≡ Some u
      → (v : SetState) × (slice_get (slice_set net.sets n t) i ≡ Some v) × (v.own ≡ u.own)
  own_stays t own i u true q e =
      let same : i ≡ n = grind (arith, nat_tests) in
      let two : Some u ≡ Some s = sym e ∙ ap (λ w. slice_get net.sets w) same ∙ here in
      let is : u ≡ s = cc in
      (t, ap (λ w. slice_get (slice_set net.sets n t) w) same ∙ set_same net.sets n s t here, own ∙ sym (ap (λ (w : SetState). w.own) is))
  own_stays t own i u false q e = let far : i ≢ n = grind (arith, nat_tests) in (u, set_other net.sets n i t far ∙ e, refl)

  -- ---- an end that was there ----
  module _ (h : Holder) (e : State) (over : Bool) (c : Book) (there : end_of h.id s.ends ≡ Some h) where
    abbrev x : Name
    x = record { node = n; id = h.id }

    abbrev to : Holder
    to = record { id = h.id; at = h.at; asked = h.asked; end = e; gone = over }

    abbrev new : Net
    new = record { sets = slice_set net.sets n (record s { ends = with_end to s.ends }); book = c }

    pub end_now : end_at new x ≡ Some to
    end_now = end_at_same net.sets c n s (record s { ends = with_end to s.ends }) to h here refl there

    pub end_then : end_at net x ≡ Some h
    end_then = ap (λ o. end_in o h.id) here ∙ there

    pub end_beside : (z : Name) → (x ≡ z → ⊥) → end_at new z ≡ end_at net z
    end_beside z apart = end_at_other net.sets net.book c n s (record s { ends = with_end to s.ends }) to z here refl apart

    pub was_stepped : Onto h to → (z : Name) (k : Holder) → end_at new z ≡ Some k → (x ≡ z) ⊎ (x ≡ z → ⊥) → (j : Holder) × (end_at net z ≡ Some j) × Onto j k
    was_stepped o z k q (inl same) =
        let is : to ≡ k = same_holder to k (end_at new z) (subst (λ w. end_at new w ≡ Some to) same end_now) q in
        (h, subst (λ w. end_at net w ≡ Some h) same end_then, subst (λ (i : Holder). Onto h i) is o)
    was_stepped o z k q (inr far) = (k, sym (end_beside z far) ∙ q, onto_itself k)

    pub is_stepped : Onto h to → (z : Name) (k : Holder) → end_at net z ≡ Some k → (x ≡ z) ⊎ (x ≡ z → ⊥) → (j : Holder) × (end_at new z ≡ Some j) × Onto k j
    is_stepped o z k q (inl same) =
        let is : h ≡ k = same_holder h k (end_at net z) (subst (λ w. end_at net w ≡ Some h) same end_then) q in
        (to, subst (λ w. end_at new w ≡ Some to) same end_now, subst (λ (i : Holder). Onto i to) is o)
    is_stepped o z k q (inr far) = (k, end_beside z far ∙ q, onto_itself k)

  -- ---- an end that is made ----
  module _ (t : SetState) (h : Holder) (c : Book) (number : h.id ≡ s.number) (ends_are : t.ends ≡ s.ends ++ h ∷ []) (none_yet : end_of s.number s.ends ≡ None) where
    abbrev y : Name
    y = record { node = n; id = s.number }

    abbrev after : Net
    after = record { sets = slice_set net.sets n t; book = c }

    pub no_end : end_at net y ≡ None
    no_end = ap (λ o. end_in o s.number) here ∙ none_yet

    pub end_here : end_at after y ≡ Some h
    end_here =
        ap (λ o. end_in o s.number) (set_same net.sets n s t here) ∙ ap (λ hs. end_of s.number hs) ends_are ∙ end_new s.number h s.ends none_yet
        ∙ ap (λ b. if b then Some h else None) (ap (λ i. nat_eq i s.number) number ∙ (let e : nat_eq s.number s.number ≡ true = grind (arith, nat_tests) in e))

    far_case : (i j : ℕ) (b : Bool) → nat_eq i j ≡ b → (i ≡ j → ⊥) → b ≡ false
    far_case i j true e q = absurd (q (grind (arith, nat_tests)))
    far_case i j false e q = refl

    old_case : (id : ℕ) (o : Option Holder) → end_of id s.ends ≡ o → (s.number ≡ id → ⊥) → end_of id (s.ends ++ h ∷ []) ≡ o
    old_case id (Some k) e apart = end_kept id h k s.ends e
    old_case id None e apart = end_new id h s.ends e ∙ ap (λ b. if b then Some h else None) (ap (λ i. nat_eq i id) number ∙ far_case s.number id (nat_eq s.number id) refl apart)

    other_case : (i id : ℕ) (b : Bool) → nat_eq i n ≡ b → (y ≡ record { node = i; id = id } → ⊥) → end_in (slice_get (slice_set net.sets n t) i) id ≡ end_in (slice_get net.sets i) id
    other_case i id true e apart =
        let same : i ≡ n = grind (arith, nat_tests) in
        let far : s.number ≡ id → ⊥ = λ q. apart (subst (λ w. y ≡ record { node = w; id = id }) (sym same) (ap (λ w. (let z : Name = record { node = n; id = w } in z)) q)) in
        ap (λ w. end_in (slice_get (slice_set net.sets n t) w) id) same ∙ ap (λ o. end_in o id) (set_same net.sets n s t here) ∙ ap (λ hs. end_of id hs) ends_are ∙ old_case id (end_of id s.ends) refl far
        ∙ sym (ap (λ o. end_in o id) here) ∙ ap (λ w. end_in (slice_get net.sets w) id) (sym same)
    other_case i id false e apart = ap (λ o. end_in o id) (set_other net.sets n i t (let far : i ≢ n = grind (arith, nat_tests) in far))

    pub end_other : (z : Name) → (y ≡ z → ⊥) → end_at after z ≡ end_at net z
    end_other z apart = other_case z.node z.id (nat_eq z.node n) refl apart

    -- an end of before isn't the new one
    pub is_old : (z : Name) (k : Holder) → end_at net z ≡ Some k → y ≡ z → ⊥
    is_old z k e same = let bad : Some k ≡ None = sym e ∙ subst (λ w. end_at net w ≡ None) same no_end in cc

    pub old_end : (z : Name) (k : Holder) → end_at net z ≡ Some k → end_at after z ≡ Some k
    old_end z k e = end_other z (is_old z k e) ∙ e

  -- ---- the node starts again ----
  module _ (pair : Pair) (more : ℕ) (c : Book) where
    abbrev again : SetState
    again = (after_restart s pair more).set

    abbrev started : Net
    started = record { sets = slice_set net.sets n again; book = c }

    pub was_lost : (z : Name) (k : Holder) (b : Bool) → nat_eq z.node n ≡ b → end_at started z ≡ Some k → (j : Holder) × (end_at net z ≡ Some j) × (g : Bool) × (gone_of j g ≡ k) × (j.gone ≡ true → g ≡ true)
    was_lost z k true q e =
        let same : z.node ≡ n = grind (arith, nat_tests) in
        let at : slice_get started.sets z.node ≡ Some again = ap (λ m. slice_get started.sets m) same ∙ set_same net.sets n s again here in
        let r = was_end z.id k s.ends (sym (ap (λ o. end_in o z.id) at) ∙ e) in
        (r.0, ap (λ o. end_in o z.id) (ap (λ m. slice_get net.sets m) same ∙ here) ∙ r.1, true, r.2, λ g. refl)
    was_lost z k false q e = let far : z.node ≢ n = grind (arith, nat_tests) in (k, sym (ap (λ o. end_in o z.id) (set_other net.sets n z.node again far)) ∙ e, k.gone, refl, λ g. g)

    pub is_lost_now : (z : Name) (j : Holder) (b : Bool) → nat_eq z.node n ≡ b → end_at net z ≡ Some j → (g : Bool) × (end_at started z ≡ Some (gone_of j g)) × (j.gone ≡ true → g ≡ true)
    is_lost_now z j true q e =
        let same : z.node ≡ n = grind (arith, nat_tests) in
        let at : slice_get net.sets z.node ≡ Some s = ap (λ m. slice_get net.sets m) same ∙ here in
        let r = is_end z.id j s.ends (sym (ap (λ o. end_in o z.id) at) ∙ e) in
        (true, ap (λ o. end_in o z.id) (ap (λ m. slice_get started.sets m) same ∙ set_same net.sets n s again here) ∙ r, λ g. refl)
    is_lost_now z j false q e = let far : z.node ≢ n = grind (arith, nat_tests) in (j.gone, ap (λ o. end_in o z.id) (set_other net.sets n z.node again far) ∙ e, λ g. g)
