-- What the code keeps of an end of a circuit stands for every state that agrees with it: of the halves it has forgotten the
-- messages that were wholly acknowledged and those that were taken. And how many octets it keeps at most.
use Rattle.std.specs.Prelude.{◌≡◌, ℕ, ◌-◌, Bool, List, [], Option, None, ◌+◌, ◌*◌, ◌≤◌, length}
use Rattle.std.specs.Option.{option_to_list}
use Rattle.circuit_l4.specs.declared.machine.Machine.{Machine}
use Rattle.circuit_l4.specs.declared.role.Role.{Role}
use Rattle.circuit_l4.specs.declared.pair.Pair.{Pair}
use Rattle.circuit_l4.specs.declared.config.EndConfig.{EndConfig}
use Rattle.circuit_l4.specs.declared.phase.EndPhase.{EndPhase}
use Rattle.circuit_l4.specs.declared.notice.EndNotice.{EndNotice}
use Rattle.circuit_l4.specs.State.{Effect, Out, State, Sending, Receiving, bytes_of}
use Rattle.circuit_l4.specs.Outputs.{outs_of}
use Rattle.circuit_l4.specs.Halves.{Inbox, IsReceiving, IsSending, Outbox, IsWithin, early_octets}

-- what is kept; what waits to be put out is as it goes out
pub record EndView : Type 0 where
  pub role : Role
  pub pair : Pair
  pub to : Pair
  pub config : EndConfig
  pub phase : EndPhase
  pub window : ℕ
  pub outgoing : Outbox
  pub incoming : Inbox
  pub choked : Bool
  pub closing : Bool
  pub tries : ℕ
  pub answer_due : Option ℕ
  pub last_active : ℕ
  pub outs : List Out
  pub notice : Option EndNotice

abbrev pub view_of : Machine → EndView
view_of m =
    record {
      role = m.role;
      pair = m.pair;
      to = m.to;
      config = m.config;
      phase = m.phase;
      window = m.window;
      outgoing = m.outgoing;
      incoming = m.incoming;
      choked = m.choked;
      closing = m.closing;
      tries = m.tries;
      answer_due = m.answer_due;
      last_active = m.last_active;
      outs = outs_of m.outgoing.queue (m.outgoing.acked - m.outgoing.done) m.outs.items;
      notice = m.notice;
    }

-- the state in which these are the halves
abbrev pub state_of : EndView → Sending → Receiving → State
state_of m sending receiving =
    record {
      role = m.role;
      pair = m.pair;
      to = m.to;
      config = m.config;
      phase = m.phase;
      window = m.window;
      sending = sending;
      receiving = receiving;
      choked = m.choked;
      closing = m.closing;
      tries = m.tries;
      answer_due = m.answer_due;
      last_active = m.last_active;
    }

-- the same, with the outputs and the notice that wait
abbrev pub effect_of : EndView → Sending → Receiving → Effect
effect_of m sending receiving =
    record { end = state_of m sending receiving; outs = m.outs; notes = option_to_list m.notice }

-- what is kept stands for this step under way, whatever its bounds
pub record KeepsEffect (m : EndView) (g : Effect) : Type 0 where
  pub written : Sending
  pub came : Receiving
  pub sending : IsSending m.outgoing written
  pub receiving : IsReceiving m.incoming came
  pub is : g ≡ effect_of m written came

-- what is kept is within its bounds, and stands for this state
pub record StandsFor (m : EndView) (s : State) : Type 0 where
  pub written : Sending
  pub came : Receiving
  pub sending : IsSending m.outgoing written
  pub receiving : IsReceiving m.incoming came
  pub within : IsWithin m.config.window m.outgoing m.incoming
  pub is : s ≡ state_of m written came

-- the same of a step under way
pub record Stands (m : EndView) (g : Effect) : Type 0 where
  pub written : Sending
  pub came : Receiving
  pub sending : IsSending m.outgoing written
  pub receiving : IsReceiving m.incoming came
  pub within : IsWithin m.config.window m.outgoing m.incoming
  pub is : g ≡ effect_of m written came

-- no output and no notice waits
pub record IsDrained (m : EndView) : Type 0 where
  pub outs : m.outs ≡ []
  pub notice : m.notice ≡ None

-- What an end of a circuit keeps, in octets, and the most that it may (this project's profile). Transports that wait to be fetched are
-- left out: their texts are in the queue. So are the lengths of messages, which are beside the messages.

-- what waits to be acknowledged, what came and wasn't taken, what is gathered of a message, and what came early: all the buffers of an end
abbrev pub kept : EndView → ℕ
kept e = bytes_of e.outgoing.queue + bytes_of e.incoming.messages + length e.incoming.gathered + early_octets e.incoming.early

-- The most of it: 65,536 wait to be acknowledged, 16,619 came and weren't taken, 8,192 are gathered, and 236 for each fragment of the
-- window came early
abbrev pub share : ℕ → ℕ
share window = 90347 + 236 * window

-- an end keeps no more than its share
abbrev pub KeepsItsShare : Type 0
KeepsItsShare = (e : EndView) (s : State) → StandsFor e s → kept e ≤ share e.config.window
