-- Turns of an agent while they run. No public clause cites it: not for the reader of a contract.
use Rattle.std.specs.Prelude.{ℕ, ◌≡◌, Bool, true, false, List, drop, length, map, Option, Some, None, is_none, Result, Ok, Err, if◌then◌else◌}
use Rattle.ax_address.specs.Callsign.{Callsign}
use Rattle.circuit_l4.specs.State.{is_up}
use Rattle.circuit_table.specs.Sets.{Holder}
use Rattle.net_model.specs.declared.events.Event as code
use Rattle.net_model.specs.declared.refusals.ReplayRefusal.{ReplayRefusal}
use Rattle.net_model.specs.Events.{event_of}
use Rattle.net_model.specs.Mailing.{Agent, mail_at, numbers_for, offer, queued_of}
use Rattle.net_world.specs.Running.{Course, GoesOn, Stands}
use Rattle.net_model.specs.Traces.{IsRefusal}
use Rattle.net_model.specs.World.{World}

-- ---- a turn, with what the line is to answer

pub record AgentStands (c : Course) (noted : List code.Event) (a : Agent) : Type 0 where
  pub world : Stands c a.world
  pub answers : map event_of noted ≡ a.answers

-- it was done, or it stopped
abbrev pub AgentRuns : Course → List code.Event → Course → List code.Event → (Agent → Agent) → Result (Unit {0}) ReplayRefusal → Type 0
AgentRuns old before new after next (Ok _) = (a : Agent) → AgentStands old before a → AgentStands new after (next a)
AgentRuns old before new after next (Err refusal) = (a : Agent) → AgentStands old before a → IsRefusal refusal (length (next a).world.air)

-- of a taking that is done: whether all else is left to do, or none waited
abbrev pub Takes : Course → List code.Event → Course → List code.Event → (Agent → Agent) → (Agent → Agent) → Bool → Type 0
Takes old before new after whole later true = (a : Agent) → AgentStands old before a → (b : Agent) × AgentStands new after b × (whole a ≡ later b)
Takes old before new after whole later false = (a : Agent) → AgentStands old before a → AgentStands new after (whole a)

-- of an offer that is done: whether the write was refused, or all else is left to do, of the same mail
abbrev pub Offers : Course → Course → (World → World) → (World → World) → Bool → Type 0
Offers old new whole later true = GoesOn old new whole
Offers old new whole later false = (w : World) → Stands old w → (v : World) × Stands new v × (v.mails ≡ w.mails) × (whole w ≡ later v)

module _ (line node at id : ℕ) where
  -- the mails that are queued for a node are offered from the nth queued one on
  abbrev pub offer_from : Callsign → ℕ → ℕ → World → World
  offer_from dest last nth w = offer line node at id (numbers_for dest last (drop nth (queued_of (mail_at at w)))) w

-- ---- an end that is held

abbrev pub is_requested : Option Holder → Bool
is_requested None = false
is_requested (Some h) = if h.gone then false else is_none h.asked

abbrev pub is_up_end : Option Holder → Bool
is_up_end None = false
is_up_end (Some h) = if h.gone then false else is_up h.end.phase
