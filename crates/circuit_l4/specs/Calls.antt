-- What the calls inside an end do. No public clause cites it: not for the reader of a contract.
use Rattle.std.specs.Prelude.{◌≡◌, ℕ, ◌+◌, ◌-◌, ◌^◌, ◌≤◌, ◌<◌, List, [], ◌∷◌, ◌++◌, length, Option, Some, None}
use Rattle.circuit_reassembly.specs.Fragments.{fragments_of}
use Rattle.circuit_l4.specs.declared.machine.Machine.{Machine}
use Rattle.circuit_l4.specs.declared.role.Role.{Role}
use Rattle.circuit_l4.specs.declared.role.Role.TheVariants.{Requester, Responder}
use Rattle.circuit_l4.specs.declared.output.Output.{Output}
use Rattle.circuit_l4.specs.declared.output.Output.TheVariants.{Request}
use Rattle.circuit_l4.specs.declared.owed.Owed.{Owed}
use Rattle.circuit_l4.specs.declared.pair.Pair.{Pair}
use Rattle.circuit_l4.specs.State.{bytes_of, Effect}
use Rattle.circuit_l4.specs.Halves.{Outbox}
use Rattle.circuit_l4.specs.Standing.{KeepsEffect, view_of}
use Rattle.circuit_l4.specs.Outputs.{out_of}

-- a call does this part of a step
abbrev pub Does : (Effect → Effect) → Machine → Machine → Type 0
Does part old new = (g : Effect) → KeepsEffect (view_of old) g → KeepsEffect (view_of new) (part g)

-- no output and no notice waits
pub record IsIdle (m : Machine) : Type 0 where
  pub outs : m.outs.items ≡ []
  pub notice : m.notice ≡ None

-- a call adds at most so many outputs to those that wait, and leaves the notice and the configuration
pub record Adds (k : ℕ) (old new : Machine) : Type 0 where
  pub outs : length new.outs.items ≤ length old.outs.items + k
  pub notice : new.notice ≡ old.notice
  pub config : new.config ≡ old.config

-- what is owed is among what is out
pub record IsOwed (owed : Owed) (m : Machine) : Type 0 where
  pub from : m.outgoing.acked ≤ owed.from
  pub to : owed.from + owed.many ≤ m.outgoing.sent

-- something waits to be put out
abbrev pub emits : Outbox → Output → Effect → Effect
emits o output g = record g { outs = g.outs ++ out_of o.queue (o.acked - o.done) output ∷ [] }

-- what asks for a circuit; a responder has no such thing
abbrev pub request_by : Role → Pair → ℕ → Option Output
request_by (Requester user node) pair window = Some (Request pair window user node)
request_by Responder pair window = None

-- a message may be written
pub record MayWrite (message : List ℕ) (o : Outbox) : Type 0 where
  pub some : 0 < length message
  pub fits : length message ≤ 8192
  pub queue : bytes_of o.queue + length message ≤ 65536
  pub numbers : o.total + length (fragments_of message) ≤ 2 ^ 62
