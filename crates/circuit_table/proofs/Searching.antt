-- What is found among the ends that are held, and what follows for the machine.
use Rattle.std.specs.Prelude.{◌≡◌, ℕ, suc, ◌≤◌, length, ◌⊎◌, Bool, true, false, not, ◌&&◌, nat_eq, List, [], ◌∷◌, ◌++◌, Option, Some, None, refl, is_none, is_some}
use Rattle.std.proofs.Common.{sym, ◌∙◌, ap, subst, inl, inr, arith}
use Rattle.std.specs.Map.{lookup, set_value, remove_entry}
use Rattle.ax_address.specs.Callsign.{Callsign}
use Rattle.circuit_table.specs.declared.holder.Holder.{Holder}
use Rattle.circuit_table.specs.declared.untold.Untold.{Untold}
use Rattle.circuit_table.specs.declared.held_ends.HeldEnds.{HeldEnds}
use Rattle.circuit_table.specs.Sets as sets
use Rattle.circuit_table.specs.Sets.{SetDone, SetState, CircuitTold, end_of, first_open, has_ended, is_open, heeds}
use Rattle.circuit_l4.specs.declared.transport.Transport.{Transport}
use Rattle.circuit_l4.specs.State.{State}
use Rattle.circuit_l4.specs.Standing.{EndView, Stands, StandsFor}
use Rattle.circuit_l4.specs.Table.{Arrive, step}
use Rattle.std.proofs.lemmas.Bool.Decides.{nat_tests}
use Rattle.circuit_table.specs.Pumps.{is_empty}
use Rattle.circuit_table.specs.Standing.{FirstFit, Fits, Hands, Here, Past, FirstLoud, Gives, EachStands, HeldStands, Keeps, Leaves, NextOf, SameNode, Tells, is_last, left_of, told_for}
use Rattle.circuit_table.proofs.Holding.{At, Loudest, hushed, loudest}

starts : (xs ys : List CircuitTold) → is_empty xs ≡ false → false ≡ is_empty (xs ++ ys)
starts [] ys e = absurd (cc e)
starts (x ∷ xs) ys e = refl

pub quiet_all : (c : HeldEnds) (s : SetState) (told : List CircuitTold) → HeldStands c s told → (r : Option ℕ) → FirstLoud r c.ends.entries → is_none r ≡ is_empty told
quiet_all c s told st None f = ap is_empty (sym (hushed s.own s.ttl s.number 0 c.ends.entries s.ends told st.ends f))
quiet_all c s told st (Some id) f =
    let l : Loudest s.own s.ttl s.number 0 id c.ends.entries s.ends told = loudest s.own s.ttl s.number 0 id c.ends.entries s.ends told st.ends f in
    let is : told ≡ l.place.mine ++ l.place.theirs = l.place.all ∙ ap (λ (b : List CircuitTold). b ++ l.place.mine ++ l.place.theirs) l.first in
    starts l.place.mine l.place.theirs l.some ∙ ap is_empty (sym is)

-- the ends are others, and all else stays
pub stands_with : (c c2 : HeldEnds) (s : SetState) (told told2 : List CircuitTold) → SameNode c c2 → HeldStands c s told → EachStands s.own s.ttl s.number 0 c2.ends.entries s.ends told2 → HeldStands c2 s told2
stands_with c c2 s told told2 same st h = record {
  own = st.own ∙ sym same.own;
  user = st.user ∙ sym same.user;
  config = st.config ∙ sym same.config;
  next = st.next ∙ sym same.next;
  number = st.number ∙ sym same.number;
  ends = h;
}

module _ (c c2 : HeldEnds) (s : SetState) (told : List CircuitTold) (id : ℕ) (same : SameNode c c2) (st : HeldStands c s told) (l : Loudest s.own s.ttl s.number 0 id c.ends.entries s.ends told) where
  abbrev a : At s.own s.ttl s.number 0 id c.ends.entries s.ends told
  a = l.place

  is : told ≡ a.mine ++ a.theirs
  is = a.all ∙ ap (λ (b : List CircuitTold). b ++ a.mine ++ a.theirs) l.first

  gives_last : (u : Untold) (k2 : Holder) (t : CircuitTold) (rest : List CircuitTold) (b : Bool) → a.mine ≡ t ∷ rest → told_for s.own s.ttl u ≡ Some t → is_last u ≡ b
      → Leaves s.own s.ttl id a.h k2 rest b → c2.ends.entries ≡ left_of id b c.ends.entries k2
      → Gives (record { set = s; told = told }) (Some u) c2
  gives_last u k2 t rest true m e last leaves left =
      let h : EachStands s.own s.ttl s.number 0 (remove_entry (nat_eq id) (set_value (nat_eq id) c.ends.entries k2)) s.ends (a.before ++ a.theirs) = a.leave k2 leaves.1 in
      let all : told ≡ t ∷ a.theirs = is ∙ ap (λ ms. ms ++ a.theirs) (m ∙ ap (λ rs. t ∷ rs) leaves.0) in
      let h2 : EachStands s.own s.ttl s.number 0 c2.ends.entries s.ends a.theirs = subst (λ es. EachStands s.own s.ttl s.number 0 es s.ends a.theirs) (sym left) (subst (λ (b : List CircuitTold). EachStands s.own s.ttl s.number 0 (remove_entry (nat_eq id) (set_value (nat_eq id) c.ends.entries k2)) s.ends (b ++ a.theirs)) l.first h) in
      (t, a.theirs, all, e, stands_with c c2 s told a.theirs same st h2)
  gives_last u k2 t rest false m e last leaves left =
      let h : EachStands s.own s.ttl s.number 0 (set_value (nat_eq id) c.ends.entries k2) s.ends (a.before ++ rest ++ a.theirs) = a.keep k2 rest leaves in
      let all : told ≡ t ∷ (rest ++ a.theirs) = is ∙ ap (λ ms. ms ++ a.theirs) m in
      let h2 : EachStands s.own s.ttl s.number 0 c2.ends.entries s.ends (rest ++ a.theirs) =
      subst (λ es. EachStands s.own s.ttl s.number 0 es s.ends (rest ++ a.theirs)) (sym left) (subst (λ (b : List CircuitTold). EachStands s.own s.ttl s.number 0 (set_value (nat_eq id) c.ends.entries k2) s.ends (b ++ rest ++ a.theirs)) l.first h) in
      (t, rest ++ a.theirs, all, e, stands_with c c2 s told (rest ++ a.theirs) same st h2)

  pub gives_next : (r : Option Untold) → NextOf id (lookup (nat_eq id) c.ends.entries) r c.ends.entries c2.ends.entries → Gives (record { set = s; told = told }) r c2
  gives_next r n =
      let x : NextOf id (Some a.k) r c.ends.entries c2.ends.entries = subst (λ o. NextOf id o r c.ends.entries c2.ends.entries) a.found n in
      let y : Tells s.own s.ttl id a.h x.0 x.1 a.mine = x.3.tells s.own s.ttl a.h a.mine a.keeps l.some in
      subst (λ (o : Option Untold). Gives (record { set = s; told = told }) o c2) (sym x.2) (gives_last x.0 x.1 y.0 y.1 (is_last x.0) y.2 y.3 refl y.4 x.4)

pub gives_first : (c c2 : HeldEnds) (s : SetState) (told : List CircuitTold) (id : ℕ) (r : Option Untold) → SameNode c c2 → HeldStands c s told → FirstLoud (Some id) c.ends.entries
    → NextOf id (lookup (nat_eq id) c.ends.entries) r c.ends.entries c2.ends.entries → Gives (record { set = s; told = told }) r c2
gives_first c c2 s told id r same st f n = gives_next c c2 s told id same st (loudest s.own s.ttl s.number 0 id c.ends.entries s.ends told st.ends f) r n

pub gives_none : (c : HeldEnds) (s : SetState) (told : List CircuitTold) → HeldStands c s told → FirstLoud None c.ends.entries → Gives (record { set = s; told = told }) None c
gives_none c s told st f =
    let none : told ≡ [] = hushed s.own s.ttl s.number 0 c.ends.entries s.ends told st.ends f in (none, subst (λ ts. HeldStands c s ts) none st)

pub flip : (r : Option ℕ) (b : Bool) → not b ≡ is_some r → b ≡ is_none r
flip None true e = refl
flip None false e = absurd (cc e)
flip (Some x) true e = absurd (cc e)
flip (Some x) false e = refl

pub hands_some : (id : ℕ) (o : Option Holder) (k : Holder) (t : Transport) (now : ℕ) (heeded : Bool) (old new : List (ℕ × Holder)) (e2 : EndView) → Some k ≡ o
    → ((x : State) → StandsFor k.end x → heeded ≡ heeds x.phase t) → ((x : State) → StandsFor k.end x → Stands e2 (step x (Arrive t) now))
    → new ≡ set_value (nat_eq id) old (record k { end = e2 }) → length e2.outs ≤ 256 → Hands id o t now heeded old new
hands_some id o k t now heeded old new e2 found hears does left few = subst (λ o. Hands id o t now heeded old new) found (e2, hears, does, left, few)

-- ---- an end that a datagram names ----
not_open : (g e t : Bool) → g ≡ true → (not g && not e && t) ≡ false
not_open true e t f = refl
not_open false e t f = absurd (cc f)

open_held : (g e t : Bool) → true ≡ (not g && not e && t) → g ≡ false
open_held true e t f = absurd (cc f)
open_held false e t f = refl

open_passes : (g e t : Bool) → true ≡ (not g && not e && t) → t ≡ true
open_passes true e t f = absurd (cc f)
open_passes false true t f = absurd (cc f)
open_passes false false t f = sym f

none_some : {A : Type 0} {a : A} → None ≡ Some a → ⊥
none_some e = cc

module _ (own : Callsign) (ttl : ℕ) (test : sets.Holder → Bool) where
  -- the first end of the machine that is open and passes
  pub record Fitting (lo id : ℕ) (hs : List sets.Holder) : Type 0 where
    pub h : sets.Holder
    pub low : lo ≤ id
    pub number : h.id ≡ id
    pub first : first_open test hs ≡ Some h
    pub end : end_of id hs ≡ Some h
    pub held : h.gone ≡ false
    pub passes : test h ≡ true

  skip : (lo id : ℕ) (h : sets.Holder) (hs : List sets.Holder) → lo ≤ h.id → (is_open h && test h) ≡ false → Fitting (suc h.id) id hs → Fitting lo id (h ∷ hs)
  skip lo id h hs low e f =
      let after : suc h.id ≤ id = f.low in
      let other : nat_eq h.id id ≡ false = grind (arith, nat_tests) in
      record { h = f.h; low = omega arith; number = f.number; first = simp e f.first; end = simp other f.end; held = f.held; passes = f.passes }

  take_it : (lo id : ℕ) (h : sets.Holder) (hs : List sets.Holder) → lo ≤ h.id → id ≡ h.id → true ≡ (is_open h && test h) → Fitting lo id (h ∷ hs)
  take_it lo id h hs low number e =
      let same : nat_eq h.id id ≡ true = grind (arith, nat_tests) in
      let f : (is_open h && test h) ≡ true = sym e in
      record { h = h; low = omega arith; number = sym number; first = simp f refl; end = simp same refl; held = open_held h.gone (has_ended h.end.phase) (test h) e; passes = open_passes h.gone (has_ended h.end.phase) (test h) e }

  fit_here : (lo id : ℕ) (h : sets.Holder) (hs : List sets.Holder) (k : Holder) (rest : List (ℕ × Holder)) (mine : List CircuitTold) → lo ≤ h.id → Keeps own ttl h.id k h mine
      → ((Some id ≡ Some h.id) × Fits test k true) ⊎ (Fits test k false × FirstFit test (Some id) rest) → (FirstFit test (Some id) rest → Fitting (suc h.id) id hs) → Fitting lo id (h ∷ hs)
  fit_here lo id h hs k rest mine low keep (inl f) later = let number : id ≡ h.id = cc (f.0) in take_it lo id h hs low number (f.1 own ttl h.id h mine keep)
  fit_here lo id h hs k rest mine low keep (inr f) later = skip lo id h hs low (sym (f.0 own ttl h.id h mine keep)) (later f.1)

  fit_case : (hi lo id : ℕ) (h : sets.Holder) (es : List (ℕ × Holder)) (hs : List sets.Holder) (told : List CircuitTold) → lo ≤ h.id
      → (Past (λ rest theirs. EachStands own ttl hi (suc h.id) rest hs theirs) h es told ⊎ Here own ttl (λ rest theirs. EachStands own ttl hi (suc h.id) rest hs theirs) h es told)
      → FirstFit test (Some id) es → ((rest : List (ℕ × Holder)) (theirs : List CircuitTold) → EachStands own ttl hi (suc h.id) rest hs theirs → FirstFit test (Some id) rest → Fitting (suc h.id) id hs)
      → Fitting lo id (h ∷ hs)
  fit_case hi lo id h es hs told low (inl p) f later = skip lo id h hs low (not_open h.gone (has_ended h.end.phase) (test h) p.gone) (later es told p.others f)
  fit_case hi lo id h es hs told low (inr p) f later =
      fit_here lo id h hs p.k p.rest p.mine low p.keeps (subst (FirstFit test (Some id)) p.is f) (λ g. later p.rest p.theirs p.others g)

  pub fitting : (hi lo id : ℕ) (es : List (ℕ × Holder)) (hs : List sets.Holder) (told : List CircuitTold) → EachStands own ttl hi lo es hs told → FirstFit test (Some id) es → Fitting lo id hs
  fitting hi lo id es [] told s f = absurd (none_some (sym (subst (FirstFit test (Some id)) s.0 f)))
  fitting hi lo id es (h ∷ hs) told s f = fit_case hi lo id h es hs told s.0 s.1 f (λ es2 told2 x g. fitting hi (suc h.id) id es2 hs told2 x g)

  unfit_here : (hi : ℕ) (h : sets.Holder) (hs : List sets.Holder) (k : Holder) (rest : List (ℕ × Holder)) (mine : List CircuitTold) → Keeps own ttl h.id k h mine
      → ((None ≡ Some h.id) × Fits test k true) ⊎ (Fits test k false × FirstFit test None rest) → (FirstFit test None rest → first_open test hs ≡ None) → first_open test (h ∷ hs) ≡ None
  unfit_here hi h hs k rest mine keep (inl f) later = absurd (none_some f.0)
  unfit_here hi h hs k rest mine keep (inr f) later = let e : (is_open h && test h) ≡ false = sym (f.0 own ttl h.id h mine keep) in simp e (later f.1)

  unfit_case : (hi : ℕ) (h : sets.Holder) (es : List (ℕ × Holder)) (hs : List sets.Holder) (told : List CircuitTold)
      → (Past (λ rest theirs. EachStands own ttl hi (suc h.id) rest hs theirs) h es told ⊎ Here own ttl (λ rest theirs. EachStands own ttl hi (suc h.id) rest hs theirs) h es told)
      → FirstFit test None es → ((rest : List (ℕ × Holder)) (theirs : List CircuitTold) → EachStands own ttl hi (suc h.id) rest hs theirs → FirstFit test None rest → first_open test hs ≡ None)
      → first_open test (h ∷ hs) ≡ None
  unfit_case hi h es hs told (inl p) f later = let e : (is_open h && test h) ≡ false = not_open h.gone (has_ended h.end.phase) (test h) p.gone in simp e (later es told p.others f)
  unfit_case hi h es hs told (inr p) f later = unfit_here hi h hs p.k p.rest p.mine p.keeps (subst (FirstFit test None) p.is f) (λ g. later p.rest p.theirs p.others g)

  pub unfitting : (hi lo : ℕ) (es : List (ℕ × Holder)) (hs : List sets.Holder) (told : List CircuitTold) → EachStands own ttl hi lo es hs told → FirstFit test None es → first_open test hs ≡ None
  unfitting hi lo es [] told s f = refl
  unfitting hi lo es (h ∷ hs) told s f = unfit_case hi h es hs told s.1 f (λ es2 told2 x g. unfitting hi (suc h.id) es2 hs told2 x g)
