-- The ends that nodes ever made, event by event.
use Rattle.std.proofs.Common.{◌≡◌, ◌<◌, ◌≤◌, ◌++◌, ◌∙◌, ℕ, zero, suc, refl, sym, ap, List, [], ◌∷◌, length, arith, cond, get_or, set, subst, Bool, true, false}
use Rattle.std.specs.Prelude.{◌==◌}
use Rattle.std.specs.declared.vec.Vec.{Vec}
use Rattle.std.proofs.lemmas.Bool.Decides.{nat_tests}
use Rattle.net_model.specs.declared.ends.EndRecord.{EndRecord}
use Rattle.net_model.specs.declared.outcome.Outcome.{Outcome}
use Rattle.net_model.specs.Ends.{all_items, ends_at, ends_of, note_event, note_events, with_offered, with_outcome}
use Rattle.net_model.specs.Events.{NumberedEvent}

one_behind : (node : ℕ) (es : List NumberedEvent) (e : NumberedEvent) (ends : List EndRecord) → note_events node (es ++ e ∷ []) ends ≡ note_event node e.event (note_events node es ends)
one_behind node [] e ends = refl
one_behind node (f ∷ es) e ends = one_behind node es e (note_event node f.event ends)

-- an event more
pub one_more : (node : ℕ) (told : List NumberedEvent) (e : NumberedEvent) → ends_of node (told ++ e ∷ []) ≡ note_event node e.event (ends_of node told)
one_more node told e = one_behind node told e []

-- what isn't told of the making of ends leaves them as they are, at whichever node
pub either_way : (b : Bool) (ends : List EndRecord) → cond b ends ends ≡ ends
either_way true ends = refl
either_way false ends = refl

-- ---- lists by the numbers of their nodes

pub at_itself : {A : Type 0} (lists : List (Vec EndRecord A)) (at : ℕ) (d v : Vec EndRecord A) → at < length lists → ends_at at (all_items (set lists at v)) ≡ v.items
at_itself [] at d v h = absurd (omega arith)
at_itself (l ∷ lists) zero d v h = refl
at_itself (l ∷ lists) (suc at) d v h = at_itself lists at d v (omega arith)

pub at_another : {A : Type 0} (lists : List (Vec EndRecord A)) (at node : ℕ) (v : Vec EndRecord A) → (at == node) ≡ false → ends_at node (all_items (set lists at v)) ≡ ends_at node (all_items lists)
at_another [] at node v h = refl
at_another (l ∷ lists) zero zero v h = absurd (cc)
at_another (l ∷ lists) zero (suc node) v h = refl
at_another (l ∷ lists) (suc at) zero v h = refl
at_another (l ∷ lists) (suc at) (suc node) v h = at_another lists at node v (grind (arith, nat_tests))

pub at_is : {A : Type 0} (lists : List (Vec EndRecord A)) (at : ℕ) (d : Vec EndRecord A) → at < length lists → ends_at at (all_items lists) ≡ (get_or lists at d).items
at_is [] at d h = absurd (omega arith)
at_is (l ∷ lists) zero d h = refl
at_is (l ∷ lists) (suc at) d h = at_is lists at d (omega arith)

pub behind_empty : {A : Type 0} (lists : List (Vec EndRecord A)) (v : Vec EndRecord A) → v.items ≡ [] → ((node : ℕ) → ends_at node (all_items lists) ≡ []) → (node : ℕ)
    → ends_at node (all_items (lists ++ v ∷ [])) ≡ []
behind_empty [] v e h zero = e
behind_empty [] v e h (suc node) = refl
behind_empty (l ∷ lists) v e h zero = h zero
behind_empty (l ∷ lists) v e h (suc node) = behind_empty lists v e (λ n. h (suc n)) node

noted_case : {A : Type 0} (lists : List (Vec EndRecord A)) (at node : ℕ) (v d : Vec EndRecord A) (f : List EndRecord → List EndRecord) (b : Bool) → (at == node) ≡ b
    → at < length lists → v.items ≡ f (get_or lists at d).items
    → ends_at node (all_items (set lists at v)) ≡ cond b (f (ends_at node (all_items lists))) (ends_at node (all_items lists))
noted_case lists at node v d f true e h is =
    let same : at ≡ node = grind (arith, nat_tests) in
    subst (λ k. ends_at k (all_items (set lists at v)) ≡ f (ends_at k (all_items lists))) same
    (at_itself lists at d v h ∙ (is ∙ ap f (sym (at_is lists at d h))))
noted_case lists at node v d f false e h is = at_another lists at node v e

-- the list of a node's number is changed, and no other
pub noted : {A : Type 0} (lists : List (Vec EndRecord A)) (at node : ℕ) (v d : Vec EndRecord A) (f : List EndRecord → List EndRecord) → at < length lists
    → v.items ≡ f (get_or lists at d).items
    → ends_at node (all_items (set lists at v)) ≡ cond (at == node) (f (ends_at node (all_items lists))) (ends_at node (all_items lists))
noted lists at node v d f h is = noted_case lists at node v d f (at == node) refl h is

-- ---- an end's outcome

pub set_outcome : (ends : List EndRecord) (at : ℕ) (outcome : Outcome) (d : EndRecord) → at < length ends
    → set ends at (record (get_or ends at d) { outcome = outcome }) ≡ with_outcome outcome at ends
set_outcome [] at outcome d h = absurd (omega arith)
set_outcome (f ∷ ends) zero outcome d h = refl
set_outcome (f ∷ ends) (suc at) outcome d h = ap (λ es. f ∷ es) (set_outcome ends at outcome d (omega arith))

pub outcome_past : (ends : List EndRecord) (at : ℕ) (outcome : Outcome) → length ends ≤ at → with_outcome outcome at ends ≡ ends
outcome_past [] at outcome h = refl
outcome_past (f ∷ ends) zero outcome h = absurd (omega arith)
outcome_past (f ∷ ends) (suc at) outcome h = ap (λ es. f ∷ es) (outcome_past ends at outcome (omega arith))

-- ---- the mail that was offered last at an end

pub set_offered : (ends : List EndRecord) (at number : ℕ) (d : EndRecord) → at < length ends
    → set ends at (record (get_or ends at d) { offered = number }) ≡ with_offered number at ends
set_offered [] at number d h = absurd (omega arith)
set_offered (f ∷ ends) zero number d h = refl
set_offered (f ∷ ends) (suc at) number d h = ap (λ es. f ∷ es) (set_offered ends at number d (omega arith))

pub offered_past : (ends : List EndRecord) (at number : ℕ) → length ends ≤ at → with_offered number at ends ≡ ends
offered_past [] at number h = refl
offered_past (f ∷ ends) zero number h = absurd (omega arith)
offered_past (f ∷ ends) (suc at) number h = ap (λ es. f ∷ es) (offered_past ends at number (omega arith))
