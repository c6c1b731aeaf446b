-- Where no node starts again and none gives too many pairs, the pairs that a node gives in a run differ.
use Rattle.std.specs.Prelude.{◌≡◌, ◌≢◌, ℕ, zero, suc, ◌≤◌, ◌<◌, ◌⊎◌, Bool, true, false, nat_eq, if◌then◌else◌, List, [], ◌∷◌, ◌++◌, length, slice_get, slice_set, Option, Some, None, refl}
use Rattle.std.specs.List.{AllByRecursion}
use Rattle.std.proofs.Common.{sym, ◌∙◌, ap, subst, inl, inr, arith}
use Rattle.std.proofs.lemmas.Bool.Decides.{nat_tests}
use Rattle.ax_address.specs.Callsign.{Callsign}
use Rattle.circuit_l4.specs.declared.pair.Pair.{Pair}
use Rattle.circuit_table.specs.Events.{Event}
use Rattle.circuit_table.specs.Givings.{IsUp, StaysUp, pairs_made}
use Rattle.circuit_table.specs.Pumps.{runs}
use Rattle.circuit_set.specs.Returning.{given_by, told_at_node}
use Rattle.circuit_table.specs.Runs.{AreStarts, IsStart, Step, events_at, events_of, sets_at, told_at}
use Rattle.circuit_table.specs.Sets.{Act, SetState, CircuitTold, held_pairs, set_step}
use Rattle.circuit_set.proofs.Given.{made_append, made_differ}
use Rattle.circuit_set.proofs.Lookups.{set_other, set_same}
use Rattle.circuit_set.proofs.Safe.{starts_at}

-- ---- lists ----
pub all_parts : {A : Type 0} (P : A → Type 0) (xs ys : List A) → AllByRecursion P (xs ++ ys) → AllByRecursion P xs × AllByRecursion P ys
all_parts P [] ys a = (tt, a)
all_parts P (x ∷ xs) ys a = let r = all_parts P xs ys a.1 in ((a.0, r.0), r.1)

abbrev pub In : Pair → List Pair → Type 0
In p [] = ⊥
In p (q ∷ qs) = (p ≡ q) ⊎ In p qs

abbrev pub Distinct : List Pair → Type 0
Distinct [] = Unit {0}
Distinct (p ∷ ps) = AllByRecursion (λ (q : Pair). p ≢ q) ps × Distinct ps

pub in_first : (p : Pair) (xs ys : List Pair) → In p xs → In p (xs ++ ys)
in_first p [] ys i = absurd i
in_first p (x ∷ xs) ys (inl e) = inl e
in_first p (x ∷ xs) ys (inr i) = inr (in_first p xs ys i)

pub in_here : (p : Pair) (xs ys : List Pair) → In p (xs ++ p ∷ ys)
in_here p [] ys = inl refl
in_here p (x ∷ xs) ys = inr (in_here p xs ys)

-- one that stands before another
pub apart_of : (xs ys : List Pair) (p q : Pair) → Distinct (xs ++ p ∷ ys) → In q xs → q ≢ p
apart_of [] ys p q d i = absurd i
apart_of (x ∷ xs) ys p q d (inl e) =
    let far : x ≢ p = (all_parts (λ (r : Pair). x ≢ r) xs (p ∷ ys) d.0).1.0 in
    λ same. far (sym e ∙ same)
apart_of (x ∷ xs) ys p q d (inr i) = apart_of xs ys p q d.1 i

get_low : (ps : List Pair) (j : ℕ) (q : Pair) → slice_get ps j ≡ Some q → j < length ps
get_low [] j q e = cc
get_low (p ∷ ps) zero q e = omega arith
get_low (p ∷ ps) (suc j) q e = let l : j < length ps = get_low ps j q e in omega arith

far_from : (p : Pair) (ps : List Pair) → ((j : ℕ) (q : Pair) → slice_get ps j ≡ Some q → p ≢ q) → AllByRecursion (λ (q : Pair). p ≢ q) ps
far_from p [] f = tt
far_from p (q ∷ ps) f = (f 0 q refl, far_from p ps (λ j r e. f (suc j) r e))

distinct : (ps : List Pair) → ((i j : ℕ) (p q : Pair) → i < j → slice_get ps i ≡ Some p → slice_get ps j ≡ Some q → p ≢ q) → Distinct ps
distinct [] f = tt
distinct (p ∷ ps) f = (far_from p ps (λ j q e. f 0 (suc j) p q (omega arith) refl e), distinct ps (λ i j a b l x y. f (suc i) (suc j) a b (omega arith) x y))

-- ---- what is told at one node ----
told_case : (n : ℕ) (e : Event) (es ys : List Event) (b : Bool) → told_at_node n (es ++ ys) ≡ told_at_node n es ++ told_at_node n ys
    → (if b then e.told ∷ told_at_node n (es ++ ys) else told_at_node n (es ++ ys)) ≡ (if b then e.told ∷ told_at_node n es else told_at_node n es) ++ told_at_node n ys
told_case n e es ys true later = ap (λ ts. e.told ∷ ts) later
told_case n e es ys false later = later

told_append : (n : ℕ) (xs ys : List Event) → told_at_node n (xs ++ ys) ≡ told_at_node n xs ++ told_at_node n ys
told_append n [] ys = refl
told_append n (x ∷ xs) ys = told_case n x xs ys (nat_eq x.node n) (told_append n xs ys)

-- the pairs that it tells
abbrev pub given : ℕ → List Event → List Pair
given n es = pairs_made (told_at_node n es)

pub given_append : (n : ℕ) (xs ys : List Event) → given n (xs ++ ys) ≡ given n xs ++ given n ys
given_append n xs ys = ap pairs_made (told_append n xs ys) ∙ made_append (told_at_node n xs) (told_at_node n ys)

told_here : (n m : ℕ) (own : Callsign) (ts : List CircuitTold) (b : Bool) → nat_eq m n ≡ b → told_at_node n (events_at m own ts) ≡ (if b then ts else [])
told_here n m own [] true e = refl
told_here n m own [] false e = refl
told_here n m own (t ∷ ts) true e = ap (λ b. if b then t ∷ told_at_node n (events_at m own ts) else told_at_node n (events_at m own ts)) e ∙ ap (λ xs. t ∷ xs) (told_here n m own ts true e)
told_here n m own (t ∷ ts) false e = ap (λ b. if b then t ∷ told_at_node n (events_at m own ts) else told_at_node n (events_at m own ts)) e ∙ told_here n m own ts false e

-- ---- the run of one node's set ----
abbrev acts_of : ℕ → List Step → List Act
acts_of n [] = []
acts_of n (st ∷ sts) = if nat_eq st.node n then st.act ∷ acts_of n sts else acts_of n sts

-- what a step tells at a node, and what it leaves there
abbrev StepAt : ℕ → List SetState → SetState → Step → Option SetState → Bool → Type 0
StepAt n sets s st o b =
    (told_at_node n (told_at sets st.node o st.act) ≡ (if b then (set_step s st.act).told else []))
    × (slice_get (sets_at sets st.node o st.act) n ≡ Some (if b then (set_step s st.act).set else s))

step_at : (n : ℕ) (sets : List SetState) (s : SetState) (st : Step) (o : Option SetState) (b : Bool) → slice_get sets n ≡ Some s → slice_get sets st.node ≡ o → nat_eq st.node n ≡ b → StepAt n sets s st o b
step_at n sets s st None true here e t =
    let same : st.node ≡ n = grind (arith, nat_tests) in
    let bad : None ≡ Some s = sym e ∙ ap (λ i. slice_get sets i) same ∙ here in
    cc
step_at n sets s st None false here e t = (refl, here)
step_at n sets s st (Some u) true here e t =
    let same : st.node ≡ n = grind (arith, nat_tests) in
    let two : Some u ≡ Some s = sym e ∙ ap (λ i. slice_get sets i) same ∙ here in
    let is : u ≡ s = cc in (
      told_here n st.node u.own (set_step u st.act).told true t ∙ ap (λ (w : SetState). (set_step w st.act).told) is,
      ap (λ i. slice_get (slice_set sets i (set_step u st.act).set) n) same ∙ set_same sets n s (set_step u st.act).set here ∙ ap (λ (w : SetState). Some (set_step w st.act).set) is,
    )
step_at n sets s st (Some u) false here e t =
    let far : n ≢ st.node = (λ same. let yes : nat_eq st.node n ≡ true = grind (arith, nat_tests) in let bad : true ≡ false = sym yes ∙ t in cc) in
    (told_here n st.node u.own (set_step u st.act).told false t, set_other sets st.node n (set_step u st.act).set far ∙ here)

told_by_acts_case : (n : ℕ) (sets : List SetState) (s : SetState) (st : Step) (sts : List Step) (b : Bool) → StepAt n sets s st (slice_get sets st.node) b
    → ((ss : List SetState) (u : SetState) → slice_get ss n ≡ Some u → told_at_node n (events_of ss sts) ≡ (runs (acts_of n sts) u).told)
    → told_at_node n (events_of sets (st ∷ sts)) ≡ (runs (if b then st.act ∷ acts_of n sts else acts_of n sts) s).told
told_by_acts_case n sets s st sts true r later =
    let now = told_at sets st.node (slice_get sets st.node) st.act in
    let ss = sets_at sets st.node (slice_get sets st.node) st.act in
    told_append n now (events_of ss sts) ∙ ap (λ ts. ts ++ told_at_node n (events_of ss sts)) r.0 ∙ ap (λ ts. (set_step s st.act).told ++ ts) (later ss (set_step s st.act).set r.1)
told_by_acts_case n sets s st sts false r later =
    let now = told_at sets st.node (slice_get sets st.node) st.act in
    let ss = sets_at sets st.node (slice_get sets st.node) st.act in
    told_append n now (events_of ss sts) ∙ ap (λ ts. ts ++ told_at_node n (events_of ss sts)) r.0 ∙ later ss s r.1

told_by_acts : (n : ℕ) (steps : List Step) (sets : List SetState) (s : SetState) → slice_get sets n ≡ Some s → told_at_node n (events_of sets steps) ≡ (runs (acts_of n steps) s).told
told_by_acts n [] sets s here = refl
told_by_acts n (st ∷ sts) sets s here =
    told_by_acts_case n sets s st sts (nat_eq st.node n) (step_at n sets s st (slice_get sets st.node) (nat_eq st.node n) here refl refl) (λ ss u e. told_by_acts n sts ss u e)

-- where there is no node nothing is told
none_at : (n : ℕ) (sets : List SetState) (st : Step) (o : Option SetState) (b : Bool) → slice_get sets n ≡ None → slice_get sets st.node ≡ o → nat_eq st.node n ≡ b
    → (told_at_node n (told_at sets st.node o st.act) ≡ []) × (slice_get (sets_at sets st.node o st.act) n ≡ None)
none_at n sets st None b none e t = (refl, none)
none_at n sets st (Some u) true none e t =
    let same : st.node ≡ n = grind (arith, nat_tests) in
    let bad : Some u ≡ None = sym e ∙ ap (λ i. slice_get sets i) same ∙ none in
    cc
none_at n sets st (Some u) false none e t =
    let far : n ≢ st.node = (λ same. let yes : nat_eq st.node n ≡ true = grind (arith, nat_tests) in let bad : true ≡ false = sym yes ∙ t in cc) in
    (told_here n st.node u.own (set_step u st.act).told false t, set_other sets st.node n (set_step u st.act).set far ∙ none)

none_told : (n : ℕ) (steps : List Step) (sets : List SetState) → slice_get sets n ≡ None → told_at_node n (events_of sets steps) ≡ []
none_told n [] sets none = refl
none_told n (st ∷ sts) sets none =
    let now = told_at sets st.node (slice_get sets st.node) st.act in
    let ss = sets_at sets st.node (slice_get sets st.node) st.act in
    let r = none_at n sets st (slice_get sets st.node) (nat_eq st.node n) none refl refl in
    told_append n now (events_of ss sts) ∙ ap (λ ts. ts ++ told_at_node n (events_of ss sts)) r.0 ∙ none_told n sts ss r.1

-- ---- the node doesn't start again ----
up_case : (n : ℕ) (st : Step) (acts : List Act) (b : Bool) → IsUp st.act → StaysUp acts → StaysUp (if b then st.act ∷ acts else acts)
up_case n st acts true u a = (u, a)
up_case n st acts false u a = a

stays_up : (n : ℕ) (steps : List Step) → AllByRecursion (λ (st : Step). IsUp st.act) steps → StaysUp (acts_of n steps)
stays_up n [] u = tt
stays_up n (st ∷ sts) u = up_case n st (acts_of n sts) (nat_eq st.node n) u.0 (stays_up n sts u.1)

-- ---- all pairs that a node gives differ ----
given_case : (n : ℕ) (sets : List SetState) (steps : List Step) (o : Option SetState) → slice_get sets n ≡ o → AreStarts sets → AllByRecursion (λ (st : Step). IsUp st.act) steps
    → given_by n (events_of sets steps) ≤ 48960 → Distinct (given n (events_of sets steps))
given_case n sets steps None e starts up few = subst (λ ts. Distinct (pairs_made ts)) (sym (none_told n steps sets e)) tt
given_case n sets steps (Some s) e starts up few =
    let start : IsStart s = starts_at sets n s starts e in
    let acts : List Act = acts_of n steps in
    let is : told_at_node n (events_of sets steps) ≡ (runs acts s).told = told_by_acts n steps sets s e in
    let goes : StaysUp acts = stays_up n steps up in
    let most : length (pairs_made (runs acts s).told) ≤ 48960 = subst (λ ts. length (pairs_made ts) ≤ 48960) is few in
    subst (λ ts. Distinct (pairs_made ts)) (sym is)
    (distinct (pairs_made (runs acts s).told)
    (λ i j p q l x y.
    let low : j < length (pairs_made (runs acts s).told) = get_low (pairs_made (runs acts s).told) j q y in
    made_differ s start [] acts goes (ap held_pairs start.none) start.pair i j p q l (omega arith) x y))

pub given_differ : (sets : List SetState) (steps : List Step) → AreStarts sets → AllByRecursion (λ (st : Step). IsUp st.act) steps
    → ((node : ℕ) → given_by node (events_of sets steps) ≤ 48960) → (n : ℕ) → Distinct (given n (events_of sets steps))
given_differ sets steps starts up few n = given_case n sets steps (slice_get sets n) refl starts up (few n)
