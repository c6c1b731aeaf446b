-- A circuit that a session asks for.
use Rattle.std.proofs.Common.{◌≡◌, ℕ, ap, refl, subst, sym, List}
use Rattle.std.specs.Prelude.{Bool, true, false, IsErrOf, IsTrue, Result, Err}
use Rattle.ax_address.specs.Callsign.{Callsign}
use Rattle.circuit_table.specs.CircuitSets.{Circuits, SetStands}
use Rattle.circuit_table.specs.Pumps.{connect_answer, at_rest}
use Rattle.circuit_table.specs.Sets.{SetState}
use Rattle.circuit_table.specs.declared.refusal.ConnectRefusal.{ConnectRefusal}
use Rattle.circuit_table.specs.declared.refusal.ConnectRefusal.TheVariants as connecting
use Rattle.link_table.specs.Standing.{TableView as Kept}
use Rattle.route_table.specs.Held.{StandsFor}
use Rattle.route_table.specs.Log.{Item}
use Rattle.route_table.specs.Table as routes
use Rattle.node_core.specs.declared.station.Station.{Station}
use Rattle.node_model.specs.Bridging.{prompt_of}
use Rattle.node_model.specs.Pumping.{pump}
use Rattle.node_core.specs.Going.{HoldsTold}
use Rattle.node_core.specs.Standing.{Holds}
use Rattle.node_model.specs.States.{Settings, State, next_hop}
use Rattle.node_core.proofs.Coming.{pumped_came}
use Rattle.node_core.proofs.Using.{resting}

-- the answer is that of the state
pub answered : (s : Station) (dest : Callsign) (n : State) → HoldsTold s n → (r : Result ℕ ConnectRefusal)
    → ((set : SetState) (log : List Item) → SetStands s.set (at_rest set) → StandsFor s.set.router.table log → r ≡ connect_answer (routes.next_hop s.set.router.table.rules log) dest set)
    → r ≡ connect_answer (next_hop n) dest n.set.set
answered s dest n t r all = rw t.0.parts.rules at (all n.set.set n.log (resting s n t) t.0.parts.log)

pub prompt_stays : (now : ℕ) (n : State) → prompt_of (pump now n) ≡ prompt_of n
prompt_stays now n = ap (λ (x : Settings). record { alias = x.alias; call = x.call }) (pumped_came now n).settings

pub unspent : (why : ConnectRefusal) (b : Bool) → (why ≡ connecting.NoMemory → ⊥) → (IsTrue b → IsErrOf {T = ℕ} (Err why) connecting.NoMemory) → b ≡ false
unspent why true differ h = absurd (differ (cc (h refl)))
unspent why false differ h = refl

-- a refusal for another reason leaves it
pub refused_told : (s : Station) (new : Circuits Kept) (n : State) → HoldsTold s n → new ≡ s.set → HoldsTold (record s { set = new }) n
refused_told s new n t same = (subst (λ (k : Circuits Kept). Holds (record s { set = k }) n) (sym same) t.0, t.1)
