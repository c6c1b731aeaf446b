-- The ways of a node, one after the other.
use Rattle.std.proofs.Common.{◌≡◌, ℕ, List, [], ◌∷◌, Bool, true, false, refl, cond, filter}
use Rattle.std.specs.Prelude.{◌==◌}
use Rattle.network_file.specs.declared.plan.vias.Via.{Via}
use Rattle.node_settings.specs.Settings.{is_via_of, with_vias}
use Rattle.node_model.specs.States.{NodeState}

vias_case : (via : Via) (others : List Via) (b : Bool) (n : NodeState) → with_vias (cond b (via ∷ others) others) n ≡ with_vias others (with_vias (cond b (via ∷ []) []) n)
vias_case via others true n = refl
vias_case via others false n = refl

pub one_via : (number : ℕ) (via : Via) (others : List Via) (n : NodeState)
    → with_vias (filter (is_via_of number) (via ∷ others)) n ≡ with_vias (filter (is_via_of number) others) (with_vias (filter (is_via_of number) (via ∷ [])) n)
one_via number via others n = vias_case via (filter (is_via_of number) others) (via.node == number) n
