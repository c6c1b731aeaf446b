-- A tick of all ends that are held.
use Rattle.std.specs.Prelude.{◌≡◌, ℕ, zero, suc, ◌≤◌, ◌<◌, ◌⊎◌, Bool, true, false, nat_eq, if◌then◌else◌, List, [], ◌∷◌, ◌++◌, length, slice_get, Option, Some, None, refl}
use Rattle.std.proofs.Common.{sym, ◌∙◌, ap, subst, inl, inr, arith}
use Rattle.std.proofs.lemmas.Bool.Decides.{nat_tests}
use Rattle.std.proofs.lemmas.List.{append_assoc}
use Rattle.std.specs.Map.{values_of}
use Rattle.indexmap.specs.IndexMap.{set_value_at}
use Rattle.ax_address.specs.Callsign.{Callsign}
use Rattle.circuit_l4.specs.State.{Effect, State}
use Rattle.circuit_l4.specs.Standing.{IsDrained, EndView, Stands, StandsFor}
use Rattle.circuit_l4.specs.Table.{Tick, step}
use Rattle.circuit_l4.specs.Opening.{facts_of}
use Rattle.circuit_table.specs.declared.holder.Holder.{Holder}
use Rattle.circuit_table.specs.declared.held_ends.HeldEnds.{HeldEnds}
use Rattle.circuit_table.specs.Sets as sets
use Rattle.circuit_table.specs.Sets.{Calls, SetDone, SetState, CircuitTold, after_call, end_of, goes_to, after_effect, told_by, with_end, does_nothing}
use Rattle.circuit_table.specs.Pumps.{runs, after_ticks, ticks_of}
use Rattle.circuit_table.specs.Standing.{EachStands, HeldStands, Here, Keeps, Past, MetBy, Rests, SameNode, Ticks, TicksAt, TicksNth, TicksTo, capped_count, of_holder}
use Rattle.circuit_table.proofs.Taken.{taken_same}
use Rattle.circuit_table.proofs.Meeting.{asked_step}
use Rattle.circuit_table.proofs.Holding.{stood}
use Rattle.circuit_table.proofs.Moving.{IsQuiet, call_pair, moved_keeps, not_gone, nothing, quiet, sents_is}

pub same_node : (a b c : HeldEnds) → SameNode a b → SameNode b c → SameNode a c
same_node a b c x y = record { own = y.own ∙ x.own; user = y.user ∙ x.user; config = y.config ∙ x.config; next = y.next ∙ x.next; number = y.number ∙ x.number }

-- ---- one after another ----
pub rests_in : (n : ℕ) (es : List (ℕ × Holder)) (e : ℕ × Holder) → Rests es → slice_get es n ≡ Some e → IsDrained e.1.end
rests_in n [] e r f = absurd (cc f)
rests_in zero (x ∷ es) e r f = let same : x ≡ e = cc f in subst (λ (y : ℕ × Holder). IsDrained y.1.end) same r.0
rests_in (suc n) (x ∷ es) e r f = rests_in n es e r.1 f

pub value_at : (n : ℕ) (es : List (ℕ × Holder)) (k : Holder) → Some k ≡ slice_get (values_of es) n → (id : ℕ) × (slice_get es n ≡ Some (id, k))
value_at n [] k f = absurd (cc f)
value_at zero (e ∷ es) k f = let same : k ≡ e.1 = cc f in (e.0, ap (λ (v : Holder). Some (e.0, v)) (sym same))
value_at (suc n) (e ∷ es) k f = value_at n es k f

pub no_value : (n : ℕ) (es : List (ℕ × Holder)) → None ≡ slice_get (values_of es) n → slice_get es n ≡ None
no_value n [] f = refl
no_value zero (e ∷ es) f = absurd (cc f)
no_value (suc n) (e ∷ es) f = no_value n es f

pub ticks_some : (n now id : ℕ) (k : Holder) (e2 : EndView) (es : List (ℕ × Holder)) → slice_get es n ≡ Some (id, k) → ((x : State) → StandsFor k.end x → Stands e2 (step x Tick now))
    → TicksNth n now es (set_value_at es n (record k { end = e2 }))
ticks_some n now id k e2 es f does =
    let there : TicksAt n now (Some (id, k)) es (set_value_at es n (record k { end = e2 })) = (record k { end = e2 }, (e2, refl, does), refl) in
    subst (λ (o : Option (ℕ × Holder)). TicksAt n now o es (set_value_at es n (record k { end = e2 }))) (sym f) there

pub ticks_none : (n now : ℕ) (es : List (ℕ × Holder)) → slice_get es n ≡ None → TicksNth n now es es
ticks_none n now es f = subst (λ (o : Option (ℕ × Holder)). TicksAt n now o es es) (sym f) refl

-- those that have yet to be ticked are as they were
pub untouched : (now n : ℕ) (old new : List (ℕ × Holder)) → TicksTo now n old new → slice_get new n ≡ slice_get old n
untouched now zero old new t = ap (λ (xs : List (ℕ × Holder)). slice_get xs 0) t
untouched now (suc n) [] new t = ap (λ (xs : List (ℕ × Holder)). slice_get xs (suc n)) t
untouched now (suc n) (e ∷ es) [] t = absurd t
untouched now (suc n) (e ∷ es) (f ∷ fs) t = untouched now n es fs t.2

more_at : (now n : ℕ) (e f : ℕ × Holder) (es fs new : List (ℕ × Holder)) → f.0 ≡ e.0 → Ticks now e.1 f.1 → (o : Option (ℕ × Holder)) → slice_get fs n ≡ o → TicksAt (suc n) now o (f ∷ fs) new
    → ((fs2 : List (ℕ × Holder)) → TicksNth n now fs fs2 → TicksTo now (suc n) es fs2) → TicksTo now (suc (suc n)) (e ∷ es) new
more_at now n e f es fs new k t None o x later =
    let same : TicksNth n now fs fs = subst (λ (y : Option (ℕ × Holder)). TicksAt n now y fs fs) (sym o) refl in
    subst (λ (xs : List (ℕ × Holder)). TicksTo now (suc (suc n)) (e ∷ es) xs) (sym x) (k, t, later fs same)
more_at now n e f es fs new k t (Some y) o x later =
    let next : TicksNth n now fs (set_value_at fs n x.0) = subst (λ (y : Option (ℕ × Holder)). TicksAt n now y fs (set_value_at fs n x.0)) (sym o) (x.0, x.1, refl) in
    subst (λ (xs : List (ℕ × Holder)). TicksTo now (suc (suc n)) (e ∷ es) xs) (sym x.2) (k, t, later (set_value_at fs n x.0) next)

pub ticks_more : (now n : ℕ) (old mid new : List (ℕ × Holder)) → TicksTo now n old mid → TicksNth n now mid new → TicksTo now (suc n) old new
ticks_more now zero [] mid new t x = subst (λ (xs : List (ℕ × Holder)). TicksNth 0 now xs new) t x
ticks_more now zero (e ∷ es) mid new t x =
    let z = subst (λ (xs : List (ℕ × Holder)). TicksNth 0 now xs new) t x in
    subst (λ (xs : List (ℕ × Holder)). TicksTo now 1 (e ∷ es) xs) (sym z.2) (refl, z.1, refl)
ticks_more now (suc n) [] mid new t x = subst (λ (xs : List (ℕ × Holder)). TicksNth (suc n) now xs new) t x
ticks_more now (suc n) (e ∷ es) [] new t x = absurd t
ticks_more now (suc n) (e ∷ es) (f ∷ fs) new t x = more_at now n e f es fs new t.0 t.1 (slice_get fs n) refl x (λ fs2 y. ticks_more now n es fs fs2 t.2 y)

-- ---- all of them ----
abbrev tick_end : ℕ → sets.Holder → sets.Holder
tick_end now h = if h.gone then h else after_effect h (step h.end Tick now)

abbrev tick_told : SetState → ℕ → sets.Holder → List CircuitTold
tick_told s now h = if h.gone then [] else told_by s h (step h.end Tick now)

abbrev ticked_ends : ℕ → List sets.Holder → List sets.Holder
ticked_ends now [] = []
ticked_ends now (h ∷ hs) = tick_end now h ∷ ticked_ends now hs

abbrev ticked_told : SetState → ℕ → List sets.Holder → List CircuitTold
ticked_told s now [] = []
ticked_told s now (h ∷ hs) = tick_told s now h ++ ticked_told s now hs

module _ (s : SetState) (now : ℕ) where
  abbrev Stay : ℕ → ℕ → List (ℕ × Holder) → List sets.Holder → List CircuitTold → Type 0
  Stay hi lo es hs told = EachStands s.own s.ttl hi lo es hs told

  tick_past : (hi lo : ℕ) (h : sets.Holder) (hs : List sets.Holder) (fs : List (ℕ × Holder)) → lo ≤ h.id → h.gone ≡ true → Stay hi (suc h.id) fs (ticked_ends now hs) (ticked_told s now hs)
      → Stay hi lo fs (ticked_ends now (h ∷ hs)) (ticked_told s now (h ∷ hs))
  tick_past hi lo h hs fs low gone later =
      let held : Stay hi lo fs (h ∷ ticked_ends now hs) (ticked_told s now hs) = (low, inl (record { gone = gone; others = later })) in
      simp gone held

  tick_keeps : (id : ℕ) (k k2 : Holder) (g : Effect) → IsQuiet k g → Stands k.end g → g.end.pair ≡ k.pair → k.taken ≡ capped_count g.end.receiving.taken → MetBy k.asked g.end → Ticks now k k2
      → Keeps s.own s.ttl id k2 (after_effect (of_holder id k g) (step g.end Tick now)) (told_by s (of_holder id k g) (step g.end Tick now))
  tick_keeps id k k2 g q st p t m (e2, is, does) =
      let x : State = g.end in
      let kept = moved_keeps s id k g e2 k.taken (step x Tick now) q (does x (stood k.end g st)) (call_pair x sets.Ticks now ∙ p) (t ∙ ap capped_count (sym (taken_same x Tick now tt))) (asked_step k.asked x Tick now m) in
      subst (λ (y : Holder). Keeps s.own s.ttl id y (after_effect (of_holder id k g) (step x Tick now)) (told_by s (of_holder id k g) (step x Tick now))) (sym is) kept

  tick_here : (hi lo : ℕ) (h : sets.Holder) (hs : List sets.Holder) (k : Holder) (f : ℕ × Holder) (fs : List (ℕ × Holder)) → lo ≤ h.id → Keeps s.own s.ttl h.id k h [] → f.0 ≡ h.id → Ticks now k f.1
      → Stay hi (suc h.id) fs (ticked_ends now hs) (ticked_told s now hs) → Stay hi lo (f ∷ fs) (ticked_ends now (h ∷ hs)) (ticked_told s now (h ∷ hs))
  tick_here hi lo h hs k f fs low keep number t later =
      let g : Effect = keep.going in
      let q : IsQuiet k g = quiet s.own s.ttl h.id k g keep.untold in
      let y : sets.Holder = of_holder h.id k g in
      let held : h.gone ≡ false = ap (λ (x : sets.Holder). x.gone) keep.is ∙ not_gone h.id k g q in
      let kept : Keeps s.own s.ttl h.id f.1 (after_effect y (step g.end Tick now)) (told_by s y (step g.end Tick now)) = tick_keeps h.id k f.1 g q keep.stands keep.pair keep.taken keep.met t in
      let kept2 : Keeps s.own s.ttl h.id f.1 (after_effect h (step h.end Tick now)) (told_by s h (step h.end Tick now)) =
      subst (λ (x : sets.Holder). Keeps s.own s.ttl h.id f.1 (after_effect x (step x.end Tick now)) (told_by s x (step x.end Tick now))) (sym keep.is) kept in
      let all : Stay hi lo (f ∷ fs) (after_effect h (step h.end Tick now) ∷ ticked_ends now hs) (told_by s h (step h.end Tick now) ++ ticked_told s now hs) =
      (low, inr (record { k = f.1; rest = fs; mine = told_by s h (step h.end Tick now); theirs = ticked_told s now hs; is = ap (λ n. (n, f.1) ∷ fs) number; both = refl; keeps = kept2; others = later })) in
      simp held all

  abbrev Ticked : ℕ → ℕ → List sets.Holder → Type 0
  Ticked hi lo hs = (es fs : List (ℕ × Holder)) → Stay hi lo es hs [] → TicksTo now (length es) es fs → Stay hi lo fs (ticked_ends now hs) (ticked_told s now hs)

  tick_first : (hi lo : ℕ) (h : sets.Holder) (hs : List sets.Holder) (k : Holder) (rest fs : List (ℕ × Holder)) → lo ≤ h.id → Keeps s.own s.ttl h.id k h [] → Stay hi (suc h.id) rest hs []
      → TicksTo now (suc (length rest)) ((h.id, k) ∷ rest) fs → Ticked hi (suc h.id) hs → Stay hi lo fs (ticked_ends now (h ∷ hs)) (ticked_told s now (h ∷ hs))
  tick_first hi lo h hs k rest [] low keep others t later = absurd t
  tick_first hi lo h hs k rest (f ∷ fs) low keep others t later = tick_here hi lo h hs k f fs low keep t.0 t.1 (later rest fs others t.2)

  tick_case : (hi lo : ℕ) (h : sets.Holder) (es fs : List (ℕ × Holder)) (hs : List sets.Holder) → lo ≤ h.id
      → (Past (λ rest theirs. Stay hi (suc h.id) rest hs theirs) h es [] ⊎ Here s.own s.ttl (λ rest theirs. Stay hi (suc h.id) rest hs theirs) h es [])
      → TicksTo now (length es) es fs → Ticked hi (suc h.id) hs → Stay hi lo fs (ticked_ends now (h ∷ hs)) (ticked_told s now (h ∷ hs))
  tick_case hi lo h es fs hs low (inl p) t later = tick_past hi lo h hs fs low p.gone (later es fs p.others t)
  tick_case hi lo h es fs hs low (inr p) t later =
      let two = nothing p.mine p.theirs p.both in
      let keep : Keeps s.own s.ttl h.id p.k h [] = subst (λ ts. Keeps s.own s.ttl h.id p.k h ts) two.0 p.keeps in
      let others : Stay hi (suc h.id) p.rest hs [] = subst (λ ts. Stay hi (suc h.id) p.rest hs ts) two.1 p.others in
      tick_first hi lo h hs p.k p.rest fs low keep others (subst (λ (xs : List (ℕ × Holder)). TicksTo now (length xs) xs fs) p.is t) later

  ticked_held : (hi lo : ℕ) (hs : List sets.Holder) → Ticked hi lo hs
  ticked_held hi lo [] es fs held t = (subst (λ (xs : List (ℕ × Holder)). TicksTo now (length xs) xs fs) held.0 t, refl, held.2)
  ticked_held hi lo (h ∷ hs) es fs held t = tick_case hi lo h es fs hs held.0 held.1 t (ticked_held hi (suc h.id) hs)

-- ---- as inputs ----
-- the numbers of ends rise from this one on
abbrev pub Rising : ℕ → List sets.Holder → Type 0
Rising lo [] = Unit {0}
Rising lo (h ∷ hs) = (lo ≤ h.id) × Rising (suc h.id) hs

abbrev Lower : ℕ → List sets.Holder → Type 0
Lower n [] = Unit {0}
Lower n (h ∷ hs) = (h.id < n) × Lower n hs

module _ (own : Callsign) (ttl : ℕ) where
  rise_case : (hi : ℕ) (h : sets.Holder) (es : List (ℕ × Holder)) (hs : List sets.Holder) (told : List CircuitTold)
      → (Past (λ rest theirs. EachStands own ttl hi (suc h.id) rest hs theirs) h es told ⊎ Here own ttl (λ rest theirs. EachStands own ttl hi (suc h.id) rest hs theirs) h es told)
      → ((rest : List (ℕ × Holder)) (theirs : List CircuitTold) → EachStands own ttl hi (suc h.id) rest hs theirs → Rising (suc h.id) hs) → Rising (suc h.id) hs
  rise_case hi h es hs told (inl p) later = later es told p.others
  rise_case hi h es hs told (inr p) later = later p.rest p.theirs p.others

  rising : (hi lo : ℕ) (es : List (ℕ × Holder)) (hs : List sets.Holder) (told : List CircuitTold) → EachStands own ttl hi lo es hs told → Rising lo hs
  rising hi lo es [] told x = tt
  rising hi lo es (h ∷ hs) told x = (x.0, rise_case hi h es hs told x.1 (λ rest theirs y. rising hi (suc h.id) rest hs theirs y))

lower_more : (n m : ℕ) (hs : List sets.Holder) → n ≤ m → Lower n hs → Lower m hs
lower_more n m [] l x = tt
lower_more n m (h ∷ hs) l x = let a : h.id < n = x.0 in (omega arith, lower_more n m hs l x.1)

lower_push : (n : ℕ) (h : sets.Holder) (hs : List sets.Holder) → h.id < n → Lower n hs → Lower n (hs ++ h ∷ [])
lower_push n h [] l x = (l, tt)
lower_push n h (y ∷ hs) l x = (x.0, lower_push n h hs l x.1)

found_in : (h : sets.Holder) (done hs : List sets.Holder) → Lower h.id done → end_of h.id (done ++ h ∷ hs) ≡ Some h
found_in h [] hs l = let same : nat_eq h.id h.id ≡ true = grind (arith, nat_tests) in simp same refl
found_in h (x ∷ done) hs l = let a : x.id < h.id = l.0 in let other : nat_eq x.id h.id ≡ false = grind (arith, nat_tests) in simp other (found_in h done hs l.1)

with_higher : (h : sets.Holder) (lo : ℕ) (hs : List sets.Holder) → h.id < lo → Rising lo hs → with_end h hs ≡ hs
with_higher h lo [] l r = refl
with_higher h lo (x ∷ hs) l r =
    let a : lo ≤ x.id = r.0 in
    let other : nat_eq x.id h.id ≡ false = grind (arith, nat_tests) in
    simp other (ap (λ ys. x ∷ ys) (with_higher h (suc x.id) hs (omega arith) r.1))

put_in : (h2 h : sets.Holder) (done hs : List sets.Holder) → h2.id ≡ h.id → Lower h.id done → Rising (suc h.id) hs → with_end h2 (done ++ h ∷ hs) ≡ done ++ h2 ∷ hs
put_in h2 h [] hs e l r =
    let same : nat_eq h.id h2.id ≡ true = grind (arith, nat_tests) in
    simp same (ap (λ ys. h2 ∷ ys) (with_higher h2 (suc h.id) hs (omega arith) r))
put_in h2 h (x ∷ done) hs e l r =
    let a : x.id < h.id = l.0 in
    let other : nat_eq x.id h2.id ≡ false = grind (arith, nat_tests) in
    simp other (ap (λ ys. x ∷ ys) (put_in h2 h done hs e l.1 r))

module _ (s : SetState) (now : ℕ) where
  abbrev with_ends : List sets.Holder → SetState
  with_ends hs = record { own = s.own; ttl = s.ttl; user = s.user; config = s.config; next = s.next; number = s.number; ends = hs }

  abbrev done_by : List sets.Holder → List CircuitTold → SetDone
  done_by hs told = record { set = with_ends hs; told = told }

  same_told : (hs : List sets.Holder) (h : sets.Holder) (g : Effect) → told_by (with_ends hs) h g ≡ told_by s h g
  same_told hs h g =
      ap (λ (ts : List CircuitTold). ts ++ sets.notices h.id g.notes ++ (if sets.is_over g.end then sets.Gone h.id (facts_of g.end) ∷ [] else []))
      (sents_is (with_ends hs) h.id h.at g.outs ∙ sym (sents_is s h.id h.at g.outs))

  one_tick : (h : sets.Holder) (done hs : List sets.Holder) → h.gone ≡ false → Lower h.id done → Rising (suc h.id) hs
      → sets.set_step (with_ends (done ++ h ∷ hs)) (Calls h.id sets.Ticks now) ≡ done_by (done ++ after_effect h (step h.end Tick now) ∷ hs) (told_by s h (step h.end Tick now))
  one_tick h done hs held l r =
      let g : Effect = step h.end Tick now in
      let at : SetState = with_ends (done ++ h ∷ hs) in
      let first : after_call at (end_of h.id (done ++ h ∷ hs)) sets.Ticks now ≡ after_call at (Some h) sets.Ticks now = ap (λ o. after_call at o sets.Ticks now) (found_in h done hs l) in
      let second : after_call at (Some h) sets.Ticks now ≡ goes_to at h [] g = simp held refl in
      let third : goes_to at h [] g ≡ done_by (with_end (after_effect h g) (done ++ h ∷ hs)) (told_by s h g) = ap (λ ts. done_by (with_end (after_effect h g) (done ++ h ∷ hs)) ts) (same_told (done ++ h ∷ hs) h g) in
      let fourth : done_by (with_end (after_effect h g) (done ++ h ∷ hs)) (told_by s h g) ≡ done_by (done ++ after_effect h g ∷ hs) (told_by s h g) =
      ap (λ xs. done_by xs (told_by s h g)) (put_in (after_effect h g) h done hs refl l r) in
      first ∙ second ∙ third ∙ fourth

  abbrev runs_on : List sets.Act → SetDone → SetDone
  runs_on acts r = let q : SetDone = runs acts r.set in record { set = q.set; told = r.told ++ q.told }

  push : (done : List sets.Holder) (h : sets.Holder) (hs : List sets.Holder) → done ++ h ∷ hs ≡ (done ++ h ∷ []) ++ hs
  push done h hs = sym (append_assoc done (h ∷ []) hs)

  abbrev Runs : List sets.Holder → Type 0
  Runs hs = (done : List sets.Holder) (lo : ℕ) → Lower lo done → Rising lo hs → runs (ticks_of now hs) (with_ends (done ++ hs)) ≡ done_by (done ++ ticked_ends now hs) (ticked_told s now hs)

  run_case : (h : sets.Holder) (hs done : List sets.Holder) (lo : ℕ) (b : Bool) → h.gone ≡ b → Lower lo done → lo ≤ h.id → Rising (suc h.id) hs → Runs hs
      → runs (if b then ticks_of now hs else Calls h.id sets.Ticks now ∷ ticks_of now hs) (with_ends (done ++ h ∷ hs))
      ≡ done_by (done ++ (if b then h else after_effect h (step h.end Tick now)) ∷ ticked_ends now hs) ((if b then [] else told_by s h (step h.end Tick now)) ++ ticked_told s now hs)
  run_case h hs done lo true e l low r later =
      let below : Lower (suc h.id) (done ++ h ∷ []) = lower_push (suc h.id) h done (omega arith) (lower_more lo (suc h.id) done (omega arith) l) in
      ap (λ xs. runs (ticks_of now hs) (with_ends xs)) (push done h hs) ∙ later (done ++ h ∷ []) (suc h.id) below r
      ∙ ap (λ xs. done_by xs (ticked_told s now hs)) (sym (push done h (ticked_ends now hs)))
  run_case h hs done lo false e l low r later =
      let g : Effect = step h.end Tick now in
      let h2 : sets.Holder = after_effect h g in
      let below : Lower (suc h.id) (done ++ h2 ∷ []) = lower_push (suc h.id) h2 done (omega arith) (lower_more lo (suc h.id) done (omega arith) l) in
      let rest : runs (ticks_of now hs) (with_ends (done ++ h2 ∷ hs)) ≡ done_by (done ++ h2 ∷ ticked_ends now hs) (ticked_told s now hs) =
      ap (λ xs. runs (ticks_of now hs) (with_ends xs)) (push done h2 hs) ∙ later (done ++ h2 ∷ []) (suc h.id) below r
      ∙ ap (λ xs. done_by xs (ticked_told s now hs)) (sym (push done h2 (ticked_ends now hs))) in
      ap (λ (d : SetDone). runs_on (ticks_of now hs) d) (one_tick h done hs e (lower_more lo h.id done low l) r)
      ∙ ap (λ (q : SetDone). record { set = q.set; told = told_by s h g ++ q.told }) rest

  runs_ticks : (hs : List sets.Holder) → Runs hs
  runs_ticks [] done lo l r = refl
  runs_ticks (h ∷ hs) done lo l r = run_case h hs done lo h.gone refl l r.0 r.1 (runs_ticks hs)

  ticked_is : Rising 0 s.ends → after_ticks now s ≡ done_by (ticked_ends now s.ends) (ticked_told s now s.ends)
  ticked_is r = runs_ticks s.ends [] 0 tt r

pub tick_goes : (c c2 : HeldEnds) (now : ℕ) (s : SetState) → SameNode c c2 → HeldStands c s [] → TicksTo now (length c.ends.entries) c.ends.entries c2.ends.entries
    → HeldStands c2 (after_ticks now s).set (after_ticks now s).told
tick_goes c c2 now s same st t =
    let held : EachStands s.own s.ttl s.number 0 c2.ends.entries (ticked_ends now s.ends) (ticked_told s now s.ends) = ticked_held s now s.number 0 s.ends c.ends.entries c2.ends.entries st.ends t in
    let all : HeldStands c2 (with_ends s now (ticked_ends now s.ends)) (ticked_told s now s.ends) = record {
      own = st.own ∙ sym same.own;
      user = st.user ∙ sym same.user;
      config = st.config ∙ sym same.config;
      next = st.next ∙ sym same.next;
      number = st.number ∙ sym same.number;
      ends = held;
    } in
    subst (λ (d : SetDone). HeldStands c2 d.set d.told) (sym (ticked_is s now (rising s.own s.ttl s.number 0 c.ends.entries s.ends [] st.ends))) all
