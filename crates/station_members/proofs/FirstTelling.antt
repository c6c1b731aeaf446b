-- The first node that has something to tell; and all frames of a node.
use Rattle.std.proofs.Common.{◌≡◌, ◌≤◌, ◌-◌, ◌∙◌, ℕ, refl, sym, ap, subst, List, [], ◌∷◌, ◌++◌, length, take, drop, arith, Bool, true, false, get_or, append_assoc}
use Rattle.std.specs.Prelude.{is_some, slice_get, Option, Some, None}
use Rattle.std.proofs.lemmas.List.{take_all}
use Rattle.link_table.specs.declared.written.Written.{Written}
use Rattle.node_core.specs.Standing.{Kept, NodeStands}
use Rattle.node_core.specs.Bridged.{Fetches_frame, after, after_all}
use Rattle.node_model.specs.States.{NodeState, frames}
use Rattle.station_members.specs.Nodes.{AllStand, all_fetched, behind, fetches, first_telling}

abbrev pub has_entry : NodeState → Bool
has_entry n = is_some (slice_get n.station.entries 0)

pub told_first : (ks : List Kept) (ns : List NodeState) (k : Kept) (b : Bool) → 1 ≤ length ks → k ≡ get_or ks 0 k
    → ((n : NodeState) → NodeStands k n → b ≡ has_entry n) → b ≡ true → AllStand ks ns → Some 0 ≡ first_telling ns
told_first [] ns k b some here says is stand = absurd (omega (arith, some))
told_first (j ∷ ks) [] k b some here says is stand = absurd stand
told_first (j ∷ ks) (n ∷ ns) k b some here says is stand =
    let has : has_entry n ≡ true = sym (says n (subst (λ m. NodeStands m n) (sym here) stand.0)) ∙ is in
    rw has refl

pub told_rest : (ks : List Kept) (ns : List NodeState) (k : Kept) (b : Bool) (r : Option ℕ) → 1 ≤ length ks → k ≡ get_or ks 0 k
    → ((n : NodeState) → NodeStands k n → b ≡ has_entry n) → b ≡ false
    → ((ms : List NodeState) → AllStand (take (length ks - 1) (drop 1 ks)) ms → r ≡ first_telling ms) → AllStand ks ns → behind r ≡ first_telling ns
told_rest [] ns k b r some here says is rest stand = absurd (omega (arith, some))
told_rest (j ∷ ks) [] k b r some here says is rest stand = absurd stand
told_rest (j ∷ ks) (n ∷ ns) k b r some here says is rest stand =
    let has : has_entry n ≡ false = sym (says n (subst (λ m. NodeStands m n) (sym here) stand.0)) ∙ is in
    let all : take (length (j ∷ ks) - 1) ks ≡ ks = take_all _ ks (omega arith) in
    rw has (ap behind (rest ns (subst (λ ms. AllStand ms ns) (sym all) stand.1)))

-- ---- frames

pub first_and_rest : (ws : List Written) (w : Written) → Some w ≡ slice_get ws 0 → ws ≡ w ∷ drop 1 ws
first_and_rest [] w e = absurd (cc e)
first_and_rest (v ∷ ws) w e = let same : w ≡ v = cc e in ap (λ x. x ∷ ws) (sym same)

pub none_left : (ws : List Written) → None ≡ slice_get ws 0 → ws ≡ []
none_left [] e = refl
none_left (w ∷ ws) e = absurd (cc e)

pub joined : (done rest all : List Written) (w : Written) (ws : List Written) → ws ≡ w ∷ rest → done ++ ws ≡ all → (done ++ w ∷ []) ++ rest ≡ all
joined done rest all w ws e is = append_assoc done (w ∷ []) rest ∙ (sym (ap (λ xs. done ++ xs) e) ∙ is)

pub fetched_once : (m : NodeState) (w : Written) (rest : List Written) → frames m.station ≡ w ∷ rest → frames (after Fetches_frame m).station ≡ rest
    → all_fetched (after Fetches_frame m) ≡ all_fetched m
fetched_once m w rest all then =
    ap (λ ws. after_all (fetches ws) (after Fetches_frame m)) then ∙ sym (ap (λ ws. after_all (fetches ws) m) all)

pub fetched_last : (m : NodeState) → frames m.station ≡ [] → after Fetches_frame m ≡ all_fetched m
fetched_last m none = sym (ap (λ ws. after_all (fetches ws) m) none)
