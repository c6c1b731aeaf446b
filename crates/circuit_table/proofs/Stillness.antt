-- Which ends have nothing to tell, and stay so while another one comes to more.
use Rattle.std.specs.Prelude.{◌≡◌, ℕ, ◌+◌, ◌≤◌, Bool, true, false, nat_eq, if◌then◌else◌, List, [], ◌∷◌, length, Option, Some, None, is_some, refl}
use Rattle.std.proofs.Common.{sym, ◌∙◌, ap, subst, cond, inl, inr, arith}
use Rattle.std.proofs.lemmas.Bool.Decides.{nat_tests}
use Rattle.std.specs.Map.{lookup, remove_entry, set_value}
use Rattle.std.proofs.lemmas.List.{nil_from_length}
use Rattle.indexmap.specs.IndexMap.{insert_entry}
use Rattle.circuit_l4.specs.Standing.{IsDrained}
use Rattle.circuit_table.specs.declared.holder.Holder.{Holder}
use Rattle.circuit_table.specs.declared.loud.Loud.{Loud}
use Rattle.circuit_table.specs.declared.loud.Loud.TheVariants.{Nobody, One, Any}
use Rattle.circuit_table.specs.Standing.{FirstLoud, IsSilent, Rests}
use Rattle.circuit_table.specs.Still.{AreStill, AreStillBeside, ComesTo, IsStill, OthersAreStill}
use Rattle.circuit_table.proofs.Holding.{stood}
use Rattle.circuit_table.proofs.Telling.{silent}

-- ---- one end ----
none_of : {A : Type 0} (o : Option A) → is_some o ≡ false → o ≡ None
none_of None e = refl
none_of (Some x) e = absurd (cc e)

pub drained : (k : Holder) → IsStill k → IsDrained k.end
drained k s = record { outs = nil_from_length k.end.outs s.0.1; notice = none_of k.end.notice s.1.0 }

pub quiet : (k : Holder) → IsStill k → IsSilent k true
quiet k s = λ own ttl id h told keeps. silent own ttl id k h told keeps s.0.0 false (drained k s) (sym (s.1.1 keeps.going.end (stood k.end keeps.going keeps.stands) keeps.taken))

-- ---- all ends ----
pub all_rest : (es : List (ℕ × Holder)) → AreStill es → Rests es
all_rest [] a = tt
all_rest (e ∷ es) a = (drained e.1 a.0, all_rest es a.1)

pub all_quiet : (es : List (ℕ × Holder)) → AreStill es → FirstLoud None es
all_quiet [] a = refl
all_quiet (e ∷ es) a = inr (quiet e.1 a.0, all_quiet es a.1)

-- ---- all but one ----
with_by : (e : ℕ × Holder) (es others : List (ℕ × Holder)) (k : Holder) (found : Option Holder) (b : Bool) → cond b (Some e.1) found ≡ Some k → AreStill (cond b es (e ∷ others)) → IsStill k
    → (found ≡ Some k → AreStill others → AreStill es) → AreStill (e ∷ es)
with_by e es others k found true f a s later = let same : e.1 ≡ k = cc f in (subst IsStill (sym same) s, a)
with_by e es others k found false f a s later = (a.0, later f a.1)

-- where that one is still, all are
pub with_one : (id : ℕ) (es : List (ℕ × Holder)) (k : Holder) → lookup (nat_eq id) es ≡ Some k → AreStill (remove_entry (nat_eq id) es) → IsStill k → AreStill es
with_one id [] k f a s = tt
with_one id (e ∷ es) k f a s = with_by e es (remove_entry (nat_eq id) es) k (lookup (nat_eq id) es) (nat_eq id e.0) f a s (λ g b. with_one id es k g b s)

none_by : (e : ℕ × Holder) (es others : List (ℕ × Holder)) (found : Option Holder) (b : Bool) → cond b (Some e.1) found ≡ None → AreStill (cond b es (e ∷ others))
    → (found ≡ None → AreStill others → AreStill es) → AreStill (e ∷ es)
none_by e es others found true f a later = absurd (cc f)
none_by e es others found false f a later = (a.0, later f a.1)

pub with_none : (id : ℕ) (es : List (ℕ × Holder)) → lookup (nat_eq id) es ≡ None → AreStill (remove_entry (nat_eq id) es) → AreStill es
with_none id [] f a = tt
with_none id (e ∷ es) f a = none_by e es (remove_entry (nat_eq id) es) (lookup (nat_eq id) es) (nat_eq id e.0) f a (λ g b. with_none id es g b)

-- where it isn't, it is the first one that has something to tell
loud_by : (id : ℕ) (e : ℕ × Holder) (es others : List (ℕ × Holder)) (k : Holder) (found : Option Holder) (b : Bool) → nat_eq id e.0 ≡ b → cond b (Some e.1) found ≡ Some k → AreStill (cond b es (e ∷ others))
    → IsSilent k false → (found ≡ Some k → AreStill others → FirstLoud (Some id) es) → FirstLoud (Some id) (e ∷ es)
loud_by id e es others k found true t f a s later =
    let is : id ≡ e.0 = grind (arith, nat_tests) in
    let same : e.1 ≡ k = cc f in
    inl (ap Some is, subst (λ (x : Holder). IsSilent x false) (sym same) s)
loud_by id e es others k found false t f a s later = inr (quiet e.1 a.0, later f a.1)

pub loud_one : (id : ℕ) (es : List (ℕ × Holder)) (k : Holder) → lookup (nat_eq id) es ≡ Some k → AreStill (remove_entry (nat_eq id) es) → IsSilent k false → FirstLoud (Some id) es
loud_one id [] k f a s = absurd (cc f)
loud_one id (e ∷ es) k f a s = loud_by id e es (remove_entry (nat_eq id) es) k (lookup (nat_eq id) es) (nat_eq id e.0) refl f a s (λ g b. loud_one id es k g b s)

-- ---- as an end comes to another one ----
set_by : (id : ℕ) (e : ℕ × Holder) (es : List (ℕ × Holder)) (k : Holder) (b : Bool) → nat_eq id e.0 ≡ b → remove_entry (nat_eq id) (set_value (nat_eq id) es k) ≡ remove_entry (nat_eq id) es
    → remove_entry (nat_eq id) (cond b ((e.0, k) ∷ es) (e ∷ set_value (nat_eq id) es k)) ≡ cond b es (e ∷ remove_entry (nat_eq id) es)
set_by id e es k true t later = simp t refl
set_by id e es k false t later = simp t (ap (λ r. e ∷ r) later)

pub set_stays : (id : ℕ) (es : List (ℕ × Holder)) (k : Holder) → remove_entry (nat_eq id) (set_value (nat_eq id) es k) ≡ remove_entry (nat_eq id) es
set_stays id [] k = refl
set_stays id (e ∷ es) k = set_by id e es k (nat_eq id e.0) refl (set_stays id es k)

insert_by : (id : ℕ) (e : ℕ × Holder) (es : List (ℕ × Holder)) (k : Holder) (b : Bool) → nat_eq id e.0 ≡ b → remove_entry (nat_eq id) (insert_entry nat_eq es id k) ≡ remove_entry (nat_eq id) es
    → remove_entry (nat_eq id) (if b then (e.0, k) ∷ es else e ∷ insert_entry nat_eq es id k) ≡ cond b es (e ∷ remove_entry (nat_eq id) es)
insert_by id e es k true t later = simp t refl
insert_by id e es k false t later = simp t (ap (λ r. e ∷ r) later)

pub insert_stays : (id : ℕ) (es : List (ℕ × Holder)) (k : Holder) → remove_entry (nat_eq id) (insert_entry nat_eq es id k) ≡ remove_entry (nat_eq id) es
insert_stays id [] k = let t : nat_eq id id ≡ true = grind (arith, nat_tests) in simp t refl
insert_stays id (e ∷ es) k = insert_by id e es k (nat_eq id e.0) refl (insert_stays id es k)

most_by : (id : ℕ) (e : ℕ × Holder) (es : List (ℕ × Holder)) (k : Holder) (b : Bool) → length (insert_entry nat_eq es id k) ≤ length es + 1
    → length (if b then (e.0, k) ∷ es else e ∷ insert_entry nat_eq es id k) ≤ length (e ∷ es) + 1
most_by id e es k true later = omega arith
most_by id e es k false later = omega arith

pub insert_most : (id : ℕ) (es : List (ℕ × Holder)) (k : Holder) → length (insert_entry nat_eq es id k) ≤ length es + 1
insert_most id [] k = omega arith
insert_most id (e ∷ es) k = most_by id e es k (nat_eq id e.0) (insert_most id es k)

pub set_beside : (id : ℕ) (l : Loud) (old new : List (ℕ × Holder)) (k : Holder) → AreStillBeside id l old → new ≡ set_value (nat_eq id) old k → OthersAreStill l new
set_beside id l old new k beside is = beside new (ap (remove_entry (nat_eq id)) is ∙ set_stays id old k)

still_by : (e : ℕ × Holder) (es others put : List (ℕ × Holder)) (k : Holder) (b : Bool) → AreStill (cond b es (e ∷ others)) → IsStill k → (AreStill others → AreStill put) → AreStill (cond b ((e.0, k) ∷ es) (e ∷ put))
still_by e es others put k true a s later = (s, a)
still_by e es others put k false a s later = (a.0, later a.1)

-- where it comes to one that is still, all are
set_still : (id : ℕ) (es : List (ℕ × Holder)) (k : Holder) → AreStill (remove_entry (nat_eq id) es) → IsStill k → AreStill (set_value (nat_eq id) es k)
set_still id [] k a s = tt
set_still id (e ∷ es) k a s = still_by e es (remove_entry (nat_eq id) es) (set_value (nat_eq id) es k) k (nat_eq id e.0) a s (λ b. set_still id es k b s)

pub comes_still : (id one : ℕ) (k : Holder) → one ≡ id → IsStill k → ComesTo id (One one) k Nobody
comes_still id one k same s = λ old new beside is. subst AreStill (sym is) (set_still id old k (subst (λ n. AreStill (remove_entry (nat_eq n) old)) same (beside old refl)) s)

pub comes : (id : ℕ) (l : Loud) (k : Holder) → ComesTo id l k l
comes id l k = λ old new beside is. set_beside id l old new k beside is

pub insert_beside : (id : ℕ) (l : Loud) (old new : List (ℕ × Holder)) (k : Holder) → AreStillBeside id l old → new ≡ insert_entry nat_eq old id k → OthersAreStill l new
insert_beside id l old new k beside is = beside new (ap (remove_entry (nat_eq id)) is ∙ insert_stays id old k)

-- ---- as one leaves ----
less_by : (e : ℕ × Holder) (es others : List (ℕ × Holder)) (b : Bool) → AreStill (e ∷ es) → AreStill others → AreStill (cond b es (e ∷ others))
less_by e es others true a later = a.1
less_by e es others false a later = (a.0, later)

pub less : (id : ℕ) (es : List (ℕ × Holder)) → AreStill es → AreStill (remove_entry (nat_eq id) es)
less id [] a = tt
less id (e ∷ es) a = less_by e es (remove_entry (nat_eq id) es) (nat_eq id e.0) a (less id es a.1)

both_by : (one id : ℕ) (e : ℕ × Holder) (es : List (ℕ × Holder)) (b c : Bool) → nat_eq one e.0 ≡ b → AreStill (cond b es (e ∷ remove_entry (nat_eq one) es))
    → (AreStill (remove_entry (nat_eq one) es) → AreStill (remove_entry (nat_eq one) (remove_entry (nat_eq id) es))) → AreStill (remove_entry (nat_eq one) (cond c es (e ∷ remove_entry (nat_eq id) es)))
both_by one id e es true true t a later = less one es a
both_by one id e es false true t a later = a.1
both_by one id e es true false t a later = simp t (less id es a)
both_by one id e es false false t a later = simp t (a.0, later a.1)

both : (one id : ℕ) (es : List (ℕ × Holder)) → AreStill (remove_entry (nat_eq one) es) → AreStill (remove_entry (nat_eq one) (remove_entry (nat_eq id) es))
both one id [] a = tt
both one id (e ∷ es) a = both_by one id e es (nat_eq one e.0) (nat_eq id e.0) refl a (λ b. both one id es b)

pub leaves : (l : Loud) (id : ℕ) (es : List (ℕ × Holder)) → OthersAreStill l es → OthersAreStill l (remove_entry (nat_eq id) es)
leaves Nobody id es a = less id es a
leaves (One one) id es a = both one id es a
leaves Any id es a = tt

-- ---- what is remembered ----
pub beside_none : (id : ℕ) (es : List (ℕ × Holder)) → AreStill es → AreStillBeside id (One id) es
beside_none id es a = λ new stays. subst AreStill (sym stays) (less id es a)
