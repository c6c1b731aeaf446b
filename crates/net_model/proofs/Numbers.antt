-- Nodes by their numbers, as they start.
use Rattle.std.proofs.Common.{◌≡◌, ◌<◌, ◌≤◌, ◌+◌, ◌-◌, ◌++◌, ◌∙◌, ℕ, suc, refl, sym, subst, List, [], ◌∷◌, filter, arith, add-one}
use Rattle.std.specs.Prelude.{Result, Ok, Err}
use Rattle.ax_address.specs.Callsign.{IsCallsign}
use Rattle.circuit_l4.specs.declared.pair.Pair.{Pair}
use Rattle.circuit_table.specs.Pumps.{Waiting}
use Rattle.circuit_table.specs.Runs.{AreStarts, IsStart}
use Rattle.circuit_table.specs.Sets.{SetState}
use Rattle.node_core.specs.Configs.{IsConfig, new_node}
use Rattle.link_table.specs.Calls.{path_answer}
use Rattle.link_table.specs.declared.path_refusal.PathRefusal.{PathRefusal}
use Rattle.network_file.specs.declared.plan.declarations.Declaration.{Declaration}
use Rattle.network_file.specs.Plan.{Plan}
use Rattle.network_file.specs.declared.plan.vias.Via.{Via}
use Rattle.node_model.specs.States.{NodeState}
use Rattle.net_model.specs.SoundPlans.{set_of, sets_of}
use Rattle.net_model.specs.Starting.{Placed, by_number, has_number, started}
use Rattle.node_settings.specs.Settings.{is_via_of, config_of, path_of, with_via_by, with_vias}

-- ---- declarations by number

pub from_next : (ds : List Declaration) (n : ℕ) → n < 17 → by_number ds n (17 - n) ≡ filter (has_number n) ds ++ by_number ds (n + 1) (17 - (n + 1))
unfolding by_number
from_next ds n h = let e : 17 - n ≡ suc (17 - (n + 1)) = omega arith in rw (e, add-one) refl

pub from_last : (ds : List Declaration) (n : ℕ) → 17 ≤ n → by_number ds n (17 - n) ≡ []
unfolding by_number
from_last ds n h = let none : 17 - n ≡ 0 = omega arith in rw none refl

-- ---- nodes that start

-- ---- their circuits as they start

pub start_behind : (ps : List Placed) (p : Placed) → AreStarts (sets_of ps) → IsStart (set_of p) → AreStarts (sets_of (ps ++ p ∷ []))
start_behind [] p all one = (one, tt)
start_behind (q ∷ ps) p all one = (all.0, start_behind ps p all.1 one)

path_stays : (r : Result (Unit {0}) PathRefusal) (via : Via) (n : NodeState) → (with_via_by r via n).station.set ≡ n.station.set
path_stays (Ok x) via n = refl
path_stays (Err why) via n = refl

pub set_stays : (vias : List Via) (n : NodeState) → (with_vias vias n).station.set ≡ n.station.set
set_stays [] n = refl
set_stays (via ∷ vias) n =
    set_stays vias (with_via_by (path_answer via.peer (path_of via) n.station.links) via n) ∙ path_stays (path_answer via.peer (path_of via) n.station.links) via n

pub starts_well : (plan : Plan) (d : Declaration) (pair : Pair) (first : ℕ) → IsCallsign d.call.letters d.call.ssid → IsConfig (config_of plan.settings d pair first)
    → IsStart (started plan d pair first).station.set.set
starts_well plan d pair first call good =
    let s : SetState = (new_node (config_of plan.settings d pair first)).station.set.set in
    let start : IsStart s = record { own = call; user = call; config = good.ends; pair = good.pair; first = good.first; none = refl } in
    subst (λ (w : Waiting). IsStart w.set) (sym (set_stays (filter (is_via_of d.node) plan.vias) (new_node (config_of plan.settings d pair first)))) start
