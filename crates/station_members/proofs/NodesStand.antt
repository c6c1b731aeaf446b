-- Nodes at their places, and the states for which they stand.
use Rattle.std.proofs.Common.{◌≡◌, ◌<◌, ◌≤◌, ◌∙◌, ℕ, zero, suc, refl, sym, ap, subst, List, [], ◌∷◌, ◌++◌, length, arith, get_or, set}
use Rattle.std.specs.Prelude.{slice_get, Option, Some, None, Result, Ok, Err, OnErr, OnOk}
use Rattle.node_core.specs.Standing.{Kept, NodeStands}
use Rattle.node_model.specs.States.{NodeState}
use Rattle.station_members.specs.Nodes.{AllStand}
use Rattle.station_members.specs.Places.{at_place}

pub stand_set : (ks : List Kept) (ns : List NodeState) (at : ℕ) (before k : Kept) (step : NodeState → NodeState) → at < length ks
    → before ≡ get_or ks at before → ((n : NodeState) → NodeStands before n → NodeStands k (step n)) → AllStand ks ns
    → AllStand (set ks at k) (at_place at step ns)
stand_set [] ns at before k step h here goes stand = absurd (omega (arith, h))
stand_set (j ∷ ks) [] at before k step h here goes stand = absurd stand
stand_set (j ∷ ks) (n ∷ ns) zero before k step h here goes stand = (goes n (subst (λ b. NodeStands b n) (sym here) stand.0), stand.1)
stand_set (j ∷ ks) (n ∷ ns) (suc at) before k step h here goes stand = (stand.0, stand_set ks ns at before k step (omega (arith, h)) here goes stand.1)

pub stand_past : (ks : List Kept) (ns : List NodeState) (at : ℕ) (step : NodeState → NodeState) → length ks ≤ at → AllStand ks ns
    → AllStand ks (at_place at step ns)
stand_past [] [] at step h stand = tt
stand_past [] (n ∷ ns) at step h stand = absurd stand
stand_past (k ∷ ks) [] at step h stand = absurd stand
stand_past (k ∷ ks) (n ∷ ns) zero step h stand = absurd (omega (arith, h))
stand_past (k ∷ ks) (n ∷ ns) (suc at) step h stand = (stand.0, stand_past ks ns at step (omega (arith, h)) stand.1)

pub same_length : (ks : List Kept) (ns : List NodeState) → AllStand ks ns → length ks ≡ length ns
same_length [] [] stand = refl
same_length [] (n ∷ ns) stand = absurd stand
same_length (k ∷ ks) [] stand = absurd stand
same_length (k ∷ ks) (n ∷ ns) stand = ap suc (same_length ks ns stand.1)

pub record IsAt (ns : List NodeState) (at : ℕ) (k : Kept) : Type 0 where
  pub state : NodeState
  pub is_in : slice_get ns at ≡ Some state
  pub stands : NodeStands k state

pub stand_get : (ks : List Kept) (ns : List NodeState) (at : ℕ) (before : Kept) → at < length ks → before ≡ get_or ks at before → AllStand ks ns
    → IsAt ns at before
stand_get [] ns at before h here stand = absurd (omega (arith, h))
stand_get (j ∷ ks) [] at before h here stand = absurd stand
stand_get (j ∷ ks) (n ∷ ns) zero before h here stand = record { state = n; is_in = refl; stands = subst (λ b. NodeStands b n) (sym here) stand.0 }
stand_get (j ∷ ks) (n ∷ ns) (suc at) before h here stand =
    let rest = stand_get ks ns at before (omega (arith, h)) here stand.1 in
    record { state = rest.state; is_in = rest.is_in; stands = rest.stands }

pub stand_none : (ks : List Kept) (ns : List NodeState) (at : ℕ) → length ks ≤ at → AllStand ks ns → slice_get ns at ≡ None
stand_none [] [] at h stand = refl
stand_none [] (n ∷ ns) at h stand = absurd stand
stand_none (k ∷ ks) [] at h stand = absurd stand
stand_none (k ∷ ks) (n ∷ ns) zero h stand = absurd (omega (arith, h))
stand_none (k ∷ ks) (n ∷ ns) (suc at) h stand = stand_none ks ns at (omega (arith, h)) stand.1

pub stand_last : (ks : List Kept) (ns : List NodeState) (k : Kept) (n : NodeState) → NodeStands k n → AllStand ks ns → AllStand (ks ++ k ∷ []) (ns ++ n ∷ [])
stand_last [] [] k n one stand = (one, tt)
stand_last [] (m ∷ ns) k n one stand = absurd stand
stand_last (j ∷ ks) [] k n one stand = absurd stand
stand_last (j ∷ ks) (m ∷ ns) k n one stand = (stand.0, stand_last ks ns k n one stand.1)

-- what is asked of the node at a place
pub asked : {A : Type 0} (ks : List Kept) (ns : List NodeState) (at : ℕ) (before : Kept) (f : NodeState → A) (g : Option NodeState → A) (a : A)
    → ((n : NodeState) → g (Some n) ≡ f n) → at < length ks → before ≡ get_or ks at before → ((n : NodeState) → NodeStands before n → a ≡ f n)
    → AllStand ks ns → a ≡ g (slice_get ns at)
asked ks ns at before f g a same h here says stand =
    let one = stand_get ks ns at before h here stand in
    says one.state one.stands ∙ (sym (same one.state) ∙ sym (ap g one.is_in))

pub asked_none : {A : Type 0} (ks : List Kept) (ns : List NodeState) (at : ℕ) (g : Option NodeState → A) → length ks ≤ at → AllStand ks ns
    → g None ≡ g (slice_get ns at)
asked_none ks ns at g h stand = sym (ap g (stand_none ks ns at h stand))

pub on_ok : {T E : Type 0} (r : Result T E) {P Q : Type 0} → (P → Q) → OnOk r P → OnOk r Q
on_ok (Ok x) f p = f p
on_ok (Err e) f p = p

pub on_err : {T E : Type 0} (r : Result T E) {P Q : Type 0} → (P → Q) → OnErr r P → OnErr r Q
on_err (Ok x) f p = p
on_err (Err e) f p = f p

-- a node that hasn't changed stands for the same state
pub stand_same : (ks : List Kept) (ns : List NodeState) (at : ℕ) (before k : Kept) → at < length ks → before ≡ get_or ks at before → k ≡ before → AllStand ks ns
    → AllStand (set ks at k) ns
stand_same [] ns at before k h here same stand = absurd (omega (arith, h))
stand_same (j ∷ ks) [] at before k h here same stand = absurd stand
stand_same (j ∷ ks) (n ∷ ns) zero before k h here same stand = (subst (λ b. NodeStands b n) (sym (same ∙ here)) stand.0, stand.1)
stand_same (j ∷ ks) (n ∷ ns) (suc at) before k h here same stand = (stand.0, stand_same ks ns at before k (omega (arith, h)) here same stand.1)
