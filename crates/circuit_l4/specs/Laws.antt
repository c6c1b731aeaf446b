-- What holds of an end of a circuit by itself, whatever it is given and in whatever order.
use Rattle.std.specs.Prelude.{◌≡◌, ℕ, ◌+◌, ◌⊎◌, ◌↔◌, List, [], ◌∷◌, ◌++◌, if◌then◌else◌, Option, Contains, is_ok}
use Rattle.ax_address.specs.Callsign.{Callsign}
use Rattle.circuit_l4.specs.declared.pair.Pair.{Pair}
use Rattle.circuit_l4.specs.declared.transport.Transport.TheVariants.{Disconnect}
use Rattle.circuit_l4.specs.declared.config.EndConfig.{EndConfig}
use Rattle.circuit_l4.specs.declared.notice.EndNotice.TheVariants.{FailedRetries, FailedOversize, FailedInactive}
use Rattle.circuit_l4.specs.State.{Effect, State, total}
use Rattle.circuit_l4.specs.Table.{Input, Write, step, write_answer}
use Rattle.circuit_l4.specs.Opening.{requesting, responding}
use Rattle.circuit_l4.specs.Expiries.{expiries, moments}

-- a step more: what it puts out and the notices that it gives stand behind the earlier ones
abbrev pub followed_by : Effect → Effect → Effect
followed_by g h = record { end = h.end; outs = g.outs ++ h.outs; notes = g.notes ++ h.notes }

-- an end that was given these inputs, each at its moment, with all that it ever put out and told
abbrev pub after_inputs : Effect → List (Input × ℕ) → Effect
after_inputs g [] = g
after_inputs g (i ∷ inputs) = after_inputs (followed_by g (step g.end i.0 i.1)) inputs

-- an end at its making
pub data IsNew : Effect → Type 0 where
  Asks : (pair : Pair) (user node : Callsign) (config : EndConfig) (now : ℕ) → IsNew (requesting pair user node config now)
  Accepts : (pair partner : Pair) (proposed : ℕ) (config : EndConfig) (now : ℕ) → IsNew (responding pair partner proposed config now)

-- FailedRetries is told exactly where there was one expiry more than there are retries, since the end was made, since more was
-- acknowledged, or since it began to close
abbrev pub FailsAfterRetries : Type 0
FailsAfterRetries =
    (g : Effect) → IsNew g → (inputs : List (Input × ℕ)) →
    Contains (after_inputs g inputs).notes FailedRetries ↔ (expiries (moments g.end inputs) ≡ g.end.config.retries + 1)

-- a step by which the circuit fails puts out nothing
abbrev pub FailingPutsOutNothing : Type 0
FailingPutsOutNothing =
    (s : State) (input : Input) (now : ℕ) →
    Contains (step s input now).notes FailedRetries ⊎ Contains (step s input now).notes FailedOversize ⊎ Contains (step s input now).notes FailedInactive →
    (step s input now).outs ≡ []

-- an end puts out a disconnect request only in a step after which all that was ever written is acknowledged
abbrev pub DisconnectsWhenAcknowledged : Type 0
DisconnectsWhenAcknowledged =
    (g : Effect) → IsNew g → (inputs : List (Input × ℕ)) (input : Input) (now : ℕ) (to : Pair) (number : Option ℕ) →
    let after = step (after_inputs g inputs).end input now in
    Contains after.outs (Disconnect to, number) → after.end.sending.acked ≡ total after.end.sending

-- what an input writes: its message, where that is accepted
abbrev pub written_by : State → Input → List (List ℕ)
written_by s (Write message) = if is_ok (write_answer s message) then message ∷ [] else []
written_by s _ = []

-- what an end has written grows by what its inputs write, and by nothing else
abbrev pub WroteByWrites : Type 0
WroteByWrites = (s : State) (input : Input) (now : ℕ) → (step s input now).end.sending.wrote ≡ s.sending.wrote ++ written_by s input
