-- What is done at a place, by cases over what is found there.
use Rattle.std.proofs.Common.{ℕ, ◌+◌, Bool, cond, List, [], ◌∷◌, map}
use Rattle.std.specs.Prelude.{Option, Some, None, option_map, unwrap_or, Result, Ok, is_ok, if◌then◌else◌}
use Rattle.radio_base.specs.declared.modulus.LinkModulus.{LinkModulus}
use Rattle.radio_base.specs.declared.modulus.LinkModulus.TheVariants.{Modulo8}
use Rattle.ax_address.specs.Callsign.{Callsign}
use Rattle.circuit_l4.specs.declared.pair.Pair.{Pair}
use Rattle.circuit_table.specs.Sets.{Holder}
use Rattle.network_file.specs.Plan.{hearers, Plan}
use Rattle.node_core.specs.declared.acts.ActDone.{ActDone}
use Rattle.node_core.specs.declared.acts.ActDone.TheVariants.{Done}
use Rattle.node_core.specs.declared.acts.ActRefusal.{ActRefusal}
use Rattle.node_core.specs.Inputs.{act_answer}
use Rattle.node_core.specs.Acts.{UserAct}
use Rattle.node_model.specs.States.{NodeState, frames}
use Rattle.node_mail.specs.Lists.{Lists}
use Rattle.net_model.specs.declared.air.Aired.{Aired}
use Rattle.net_model.specs.Events.{Delivered, Shown}
use Rattle.net_model.specs.Lines.{burst_from, deliver_all, hear, kiss_bytes, restarts, table_of, wrote_of, cut, flow, lose_at, settle, spread}
use Rattle.net_model.specs.Mailing.{offer_to}
use Rattle.net_model.specs.Starting.{Placed}
use Rattle.net_model.specs.World.{Input, World, after, aired, aired_as, put, puts, tell, tells_entries, with_found, with_state}

abbrev pub reaches : ℕ → ℕ → Input → Option Placed → World → World
reaches line at input o w = with_found o (λ p. tells_entries line at p (after w.now input p.state)) w

abbrev pub answers : UserAct → ℕ → Option Placed → Result ActDone ActRefusal
answers act now o = unwrap_or (option_map (λ (p : Placed). act_answer now act p.state) o) (Ok Done)

abbrev pub put_of : ℕ → ℕ → LinkModulus → Option Placed → World → World
put_of line at came o w = with_found o (λ p. puts line at p (aired w.channels came p)) w

abbrev pub change_of : ℕ → (NodeState → NodeState) → Option Placed → World → World
change_of at step o w = with_found o (λ p. with_state at p (step p.state)) w

abbrev pub all_entries_of : ℕ → ℕ → Option Placed → World → World
all_entries_of line at o w = with_found o (λ p. tells_entries line at p p.state) w

abbrev pub put_by_of : ℕ → ℕ → ℕ → Bool → LinkModulus → Option Placed → World → World
put_by_of line at node on_air came o w = with_found o (λ p. puts line at p (if on_air then map (aired_as node came) (frames p.state.station) else [])) w

abbrev pub deliver_of : ℕ → ℕ → ℕ → Option Aired → World → World
deliver_of line at node o w = with_found o (λ f v. hear line node (kiss_bytes f.octets.items) f.modulus (tell line (Delivered (at + 1) node ∷ []) v)) w

abbrev pub spread_of : ℕ → ℕ → Option Aired → World → World
spread_of line at o w = with_found o (λ f. deliver_all line at (hearers w.channels f.sender)) w

abbrev pub flow_by : ℕ → ℕ → World → Option ℕ → World
flow_by line count w o = elim o [ None ↦ w | Some at ↦ flow line count (spread line at (settle at w)) ]

abbrev pub cut_by : ℕ → ℕ → World → Option ℕ → World
cut_by line count w o = elim o [ None ↦ w | Some at ↦ cut line count (lose_at line at (at + 1) w) ]

abbrev pub shown_of : ℕ → Option Placed → World → World
shown_of line o w = with_found o (λ p. tell line (Shown (table_of p) ∷ [])) w

-- what a burst comes to after a text that was answered so
abbrev pub burst_by : ℕ → ℕ → ℕ → ℕ → ℕ → ℕ → Result ActDone ActRefusal → World → World
burst_by line at node end nth more r v =
    let u : World = put line at Modulo8 (tell line (wrote_of node end nth more r) v) in cond (is_ok r) (burst_from line at node end (nth + 1) more u) u

abbrev pub restart_of : Plan → ℕ → ℕ → Pair → Option Placed → World → World
restart_of plan line at pair o w = with_found o (restarts plan line at pair) w

abbrev pub joined : Option (Option Lists) → Option Lists
joined o = unwrap_or o None

abbrev pub ends_of_placed : Option Placed → List Holder
ends_of_placed o = unwrap_or (option_map (λ (p : Placed). p.state.station.set.set.ends) o) []

abbrev pub offer_where : ℕ → ℕ → ℕ → ℕ → Option Callsign → World → World
offer_where line node at id o w = with_found o (offer_to line node at id) w
