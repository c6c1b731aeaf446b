-- How much is untold, by what the code holds.
use Rattle.std.specs.Prelude.{◌≡◌, ℕ, ◌+◌, ◌*◌, ◌≤◌, Bool, true, false, nat_eq, if◌then◌else◌, List, [], ◌∷◌, length, Option, Some, None, is_some, refl}
use Rattle.std.proofs.Common.{sym, ◌∙◌, ap, subst, arith, cond, inl, inr}
use Rattle.std.proofs.lemmas.Bool.Decides.{nat_tests}
use Rattle.std.specs.Map.{lookup, remove_entry, set_value}
use Rattle.indexmap.specs.IndexMap.{insert_entry}
use Rattle.circuit_l4.specs.declared.pair.Pair.{Pair}
use Rattle.circuit_l4.specs.declared.transport.Transport.{Transport}
use Rattle.circuit_l4.specs.declared.config.EndConfig.{EndConfig}
use Rattle.circuit_l4.specs.declared.notice.EndNotice.{EndNotice}
use Rattle.circuit_l4.specs.Opening.{responding}
use Rattle.circuit_l4.specs.State.{Effect}
use Rattle.circuit_l4.specs.Standing.{Stands}
use Rattle.circuit_table.specs.declared.holder.Holder.{Holder}
use Rattle.circuit_table.specs.declared.untold.Untold.{Untold}
use Rattle.circuit_table.specs.declared.held_ends.HeldEnds.{HeldEnds}
use Rattle.circuit_table.specs.Standing.{Brings, FallsBy, FirstLoud, Hands, Holds, NextOf, is_last, left_at, left_of, untold_at, untold_in}

-- an end comes to another one
pub put_by : (id : ℕ) (e : ℕ × Holder) (es : List (ℕ × Holder)) (k k2 : Holder) (b : Bool) → nat_eq id e.0 ≡ b → cond b (Some e.1) (lookup (nat_eq id) es) ≡ Some k
    → (lookup (nat_eq id) es ≡ Some k → untold_in (set_value (nat_eq id) es k2) + untold_at k ≡ untold_in es + untold_at k2)
    → untold_in (cond b ((e.0, k2) ∷ es) (e ∷ set_value (nat_eq id) es k2)) + untold_at k ≡ untold_in (e ∷ es) + untold_at k2
put_by id e es k k2 true s f later = let same : e.1 ≡ k = cc f in let n : untold_at e.1 ≡ untold_at k = ap untold_at same in omega (arith, n)
put_by id e es k k2 false s f later = let n = later f in omega (arith, n)

pub put : (id : ℕ) (es : List (ℕ × Holder)) (k k2 : Holder) → lookup (nat_eq id) es ≡ Some k → untold_in (set_value (nat_eq id) es k2) + untold_at k ≡ untold_in es + untold_at k2
put id [] k k2 f = absurd (cc f)
put id (e ∷ es) k k2 f = put_by id e es k k2 (nat_eq id e.0) refl f (λ g. put id es k k2 g)

-- an end is held no longer
drop_by : (id : ℕ) (e : ℕ × Holder) (es : List (ℕ × Holder)) (k k2 : Holder) (b : Bool) → nat_eq id e.0 ≡ b → cond b (Some e.1) (lookup (nat_eq id) es) ≡ Some k
    → (lookup (nat_eq id) es ≡ Some k → untold_in (remove_entry (nat_eq id) (set_value (nat_eq id) es k2)) + untold_at k ≡ untold_in es)
    → untold_in (remove_entry (nat_eq id) (cond b ((e.0, k2) ∷ es) (e ∷ set_value (nat_eq id) es k2))) + untold_at k ≡ untold_in (e ∷ es)
drop_by id e es k k2 true s f later =
    let same : e.1 ≡ k = cc f in
    let n : untold_at e.1 ≡ untold_at k = ap untold_at same in
    simp s (omega (arith, n))
drop_by id e es k k2 false s f later = let n = later f in simp s (omega (arith, n))

pub drop : (id : ℕ) (es : List (ℕ × Holder)) (k k2 : Holder) → lookup (nat_eq id) es ≡ Some k → untold_in (remove_entry (nat_eq id) (set_value (nat_eq id) es k2)) + untold_at k ≡ untold_in es
drop id [] k k2 f = absurd (cc f)
drop id (e ∷ es) k k2 f = drop_by id e es k k2 (nat_eq id e.0) refl f (λ g. drop id es k k2 g)

left : (id : ℕ) (es : List (ℕ × Holder)) (k k2 : Holder) (b : Bool) → lookup (nat_eq id) es ≡ Some k → untold_in (left_of id b es k2) + untold_at k ≡ untold_in es + (if b then 0 else untold_at k2)
left id es k k2 true f = let n = drop id es k k2 f in omega (arith, n)
left id es k k2 false f = put id es k k2 f

falls_case : (id : ℕ) (r : Option Untold) (old new : List (ℕ × Holder)) (o : Option Holder) → lookup (nat_eq id) old ≡ o → NextOf id o r old new → FallsBy r (untold_in old) (untold_in new)
falls_case id r old new None f x = subst (λ (y : Option Untold). FallsBy y (untold_in old) (untold_in new)) (sym x.0) (ap untold_in x.1)
falls_case id r old new (Some k) f x =
    let n : untold_in new + untold_at k ≡ untold_in old + left_at x.0 x.1 = ap (λ es. untold_in es + untold_at k) x.4 ∙ left id old k x.1 (is_last x.0) f in
    let m = x.3.falls in
    subst (λ (y : Option Untold). FallsBy y (untold_in old) (untold_in new)) (sym x.2) (omega (arith, n, m))

pub falls : (id : ℕ) (r : Option Untold) (old new : List (ℕ × Holder)) → NextOf id (lookup (nat_eq id) old) r old new → FallsBy r (untold_in old) (untold_in new)
falls id r old new x = falls_case id r old new (lookup (nat_eq id) old) refl x

-- an end that was found is held, so that it tells something
held_by : (id : ℕ) (e : ℕ × Holder) (es : List (ℕ × Holder)) (b : Bool) → nat_eq id e.0 ≡ b → Some id ≡ Some e.0 → cond b (Some e.1) (lookup (nat_eq id) es) ≡ None → ⊥
held_by id e es true s f n = cc
held_by id e es false s f n = let same : id ≡ e.0 = cc f in let differ : nat_eq id e.0 ≡ true = grind (arith, nat_tests) in cc

found : (id : ℕ) (es : List (ℕ × Holder)) → FirstLoud (Some id) es → lookup (nat_eq id) es ≡ None → ⊥
found id [] f n = cc f
found id (e ∷ es) (inl x) n = held_by id e es (nat_eq id e.0) refl x.0 n
found id (e ∷ es) (inr x) n = by (nat_eq id e.0) n (found id es x.1)
  where
    by : (b : Bool) → cond b (Some e.1) (lookup (nat_eq id) es) ≡ None → (lookup (nat_eq id) es ≡ None → ⊥) → ⊥
    by true m later = cc m
    by false m later = later m

never_case : (id : ℕ) (r : Option Untold) (old new : List (ℕ × Holder)) (o : Option Holder) → lookup (nat_eq id) old ≡ o → NextOf id o r old new → FirstLoud (Some id) old → r ≡ None → ⊥
never_case id r old new None f x first e = found id old first f
never_case id r old new (Some k) f x first e = cc (sym e ∙ x.2)

pub never_none : (id : ℕ) (r : Option Untold) (old new : List (ℕ × Holder)) → NextOf id (lookup (nat_eq id) old) r old new → FirstLoud (Some id) old → r ≡ None → ⊥
never_none id r old new x first e = never_case id r old new (lookup (nat_eq id) old) refl x first e

pub told_some : (r : Option Untold) → (r ≡ None → ⊥) → is_some r ≡ true
told_some None f = absurd (f refl)
told_some (Some u) f = refl

-- ---- what a datagram brings ----
notice_most : (n : Option EndNotice) → (if is_some n then 1 else 0) ≤ 1
notice_most None = omega arith
notice_most (Some n) = omega arith

untold_most : (k : Holder) → length k.end.outs ≤ 256 → untold_at k ≤ 515
untold_most k l = by k.unannounced (notice_most k.end.notice)
  where
    by : (b : Bool) → (if is_some k.end.notice then 1 else 0) ≤ 1 → 1 + (if b then 1 else 0) + 2 * length k.end.outs + (if is_some k.end.notice then 1 else 0) ≤ 515
    by true n = omega arith
    by false n = omega arith

hands_case : (id : ℕ) (old new : List (ℕ × Holder)) (o : Option Holder) → lookup (nat_eq id) old ≡ o → (t : Transport) (now : ℕ) (heeded : Bool) → Hands id o t now heeded old new → untold_in new ≤ untold_in old + 515
hands_case id old new None f t now heeded x = let n = ap untold_in x.1 in omega (arith, n)
hands_case id old new (Some k) f t now heeded x =
    let k2 : Holder = record k { end = x.0 } in
    let n : untold_in new + untold_at k ≡ untold_in old + untold_at k2 = ap (λ es. untold_in es + untold_at k) x.3 ∙ put id old k k2 f in
    let m : untold_at k2 ≤ 515 = untold_most k2 x.4 in
    omega (arith, n, m)

pub hands_few : (id : ℕ) (old new : List (ℕ × Holder)) (t : Transport) (now : ℕ) (heeded : Bool) → Hands id (lookup (nat_eq id) old) t now heeded old new → untold_in new ≤ untold_in old + 515
hands_few id old new t now heeded x = hands_case id old new (lookup (nat_eq id) old) refl t now heeded x

pub falls_few : (r : Option Untold) (a b : ℕ) → FallsBy r a b → b ≤ a
falls_few None a b f = omega arith
falls_few (Some u) a b f = omega arith

insert_by : (id : ℕ) (e : ℕ × Holder) (es : List (ℕ × Holder)) (k : Holder) (b : Bool) → untold_in (insert_entry nat_eq es id k) ≤ untold_in es + untold_at k
    → untold_in (if b then (e.0, k) ∷ es else e ∷ insert_entry nat_eq es id k) ≤ untold_in (e ∷ es) + untold_at k
insert_by id e es k true later = omega arith
insert_by id e es k false later = omega arith

pub insert_few : (id : ℕ) (es : List (ℕ × Holder)) (k : Holder) → untold_in (insert_entry nat_eq es id k) ≤ untold_in es + untold_at k
insert_few id [] k = omega arith
insert_few id (e ∷ es) k = insert_by id e es k (nat_eq id e.0) (insert_few id es k)

-- an end that a request has opened puts out one Accept
pub responds_few : (c c2 : HeldEnds) (k : Holder) (p q : Pair) (window : ℕ) (config : EndConfig) (now : ℕ) → Holds k c c2 → Stands k.end (responding p q window config now) → k.unannounced ≡ false
    → Brings (untold_in c.ends.entries) (untold_in c2.ends.entries)
responds_few c c2 k p q window config now x stands u =
    let outs : 1 ≡ length k.end.outs = ap (λ (g : Effect). length g.outs) stands.is in
    let most : untold_at k ≤ 515 = untold_most k (omega arith) in
    let n = ap untold_in x.ends in
    let m = insert_few c.number c.ends.entries k in
    omega (arith, n, m)
