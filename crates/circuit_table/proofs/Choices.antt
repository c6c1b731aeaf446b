-- A step that goes one of two ways, and who an end is.
use Rattle.std.specs.Prelude.{ℕ, Bool, if◌then◌else◌, None}
use Rattle.circuit_l4.specs.declared.pair.Pair.{Pair}
use Rattle.circuit_l4.specs.declared.config.EndConfig.{EndConfig}
use Rattle.circuit_l4.specs.declared.role.Role.{Role}
use Rattle.circuit_l4.specs.State.{State}
use Rattle.circuit_l4.specs.Moves.{wait}
use Rattle.circuit_l4.proofs.Parts.{either}

-- what stays as it is
pub record Named : Type 0 where
  pub role : Role
  pub pair : Pair
  pub to : Pair
  pub config : EndConfig
  pub window : ℕ

abbrev pub names : State → Named
names s = record { role = s.role; pair = s.pair; to = s.to; config = s.config; window = s.window }

pub on_due : (P : State → Type 0) (b : Bool) (now : ℕ) (t : State) → P (wait now t) → P (record t { answer_due = None }) → P (if b then wait now t else record t { answer_due = None })
on_due P b now t h k = either P b (wait now t) (record t { answer_due = None }) h k
