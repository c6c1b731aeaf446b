-- The taking of a message and the offering of a mail, with what follows them.
use Rattle.std.proofs.Common.{ℕ, cond}
use Rattle.std.specs.Prelude.{Bool, Option, Result}
use Rattle.ax_address.specs.Callsign.{Callsign}
use Rattle.circuit_table.specs.CircuitSets.{partner_at}
use Rattle.circuit_table.specs.Sets.{end_of}
use Rattle.node_core.specs.declared.acts.ActDone.{ActDone}
use Rattle.node_core.specs.declared.acts.ActRefusal.{ActRefusal}
use Rattle.node_core.specs.Acts as acts
use Rattle.net_model.specs.Mailing.{Agent, aired_before, ends_here, hear_taken, is_taken, offer_one}
use Rattle.net_model.specs.World.{Act, World, answer, reach}

module _ (line node at : ℕ) where
  -- where a message was taken it is heard, and then follows what does
  abbrev pub took_by : ℕ → Option Callsign → Result ActDone ActRefusal → (Agent → Agent) → Agent → Agent
  took_by id from r later a = cond (is_taken r) (later (hear_taken line node at id from r a)) (hear_taken line node at id from r a)

  abbrev pub take_then : ℕ → (Agent → Agent) → Agent → Agent
  take_then id later a =
      let w : World = aired_before line at a.world in
      took_by id (partner_at (end_of id (ends_here at a.world))) (answer at (acts.Take id) w) later (record a { world = reach line at (Act (acts.Take id)) w })

  -- where a mail may be written it is, and then follows what does
  abbrev pub offer_by : ℕ → ℕ → Bool → (World → World) → World → World
  offer_by id number may later w = cond may (later (offer_one line node at id number w)) w
