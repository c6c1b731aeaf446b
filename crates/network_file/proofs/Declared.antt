-- One more node is declared, with a number and a call that no other has.
use Rattle.std.proofs.Common.{◌≡◌, ◌∙◌, ℕ, refl, List, [], ◌∷◌, ◌++◌, false}
use Rattle.std.specs.Prelude.{◌==◌}
use Rattle.std.proofs.lemmas.Bool.{or_parts, or_from}
use Rattle.ax_address.specs.Callsign.{Callsign, same_call}
use Rattle.ax_address.proofs.SameCalls.{call_turned}
use Rattle.ax_address.proofs.SameNumbers.{nat_apart}
use Rattle.network_file.specs.declared.plan.declarations.Declaration.{Declaration}
use Rattle.network_file.specs.Laws.{AreDifferent, HaveOwnCalls}
use Rattle.network_file.specs.Places.{has_call, has_node}

other_node : (ds : List Declaration) (d : Declaration) (n : ℕ) → has_node ds n ≡ false → (d.node == n) ≡ false → has_node (ds ++ d ∷ []) n ≡ false
other_node [] d n e f = or_from (d.node == n) false f refl
other_node (x ∷ ds) d n e f = let parts = or_parts (x.node == n) (has_node ds n) e in or_from (x.node == n) (has_node (ds ++ d ∷ []) n) parts.0 (other_node ds d n parts.1 f)

pub more_different : (ds : List Declaration) (d : Declaration) → has_node ds d.node ≡ false → AreDifferent ds → AreDifferent (ds ++ d ∷ [])
more_different [] d e a = (refl, tt)
more_different (x ∷ ds) d e a =
    let parts = or_parts (x.node == d.node) (has_node ds d.node) e in
    (other_node ds d x.node a.0 (nat_apart x.node d.node parts.0), more_different ds d parts.1 a.1)

other_call : (ds : List Declaration) (d : Declaration) (c : Callsign) → has_call ds c ≡ false → same_call d.call c ≡ false → has_call (ds ++ d ∷ []) c ≡ false
other_call [] d c e f = or_from (same_call d.call c) false f refl
other_call (x ∷ ds) d c e f =
    let parts = or_parts (same_call x.call c) (has_call ds c) e in or_from (same_call x.call c) (has_call (ds ++ d ∷ []) c) parts.0 (other_call ds d c parts.1 f)

pub more_calls : (ds : List Declaration) (d : Declaration) → has_call ds d.call ≡ false → HaveOwnCalls ds → HaveOwnCalls (ds ++ d ∷ [])
more_calls [] d e a = (refl, tt)
more_calls (x ∷ ds) d e a =
    let parts = or_parts (same_call x.call d.call) (has_call ds d.call) e in
    (other_call ds d x.call a.0 (call_turned d.call x.call ∙ parts.0), more_calls ds d parts.1 a.1)
