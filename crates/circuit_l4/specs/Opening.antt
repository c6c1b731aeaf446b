-- How an end of a circuit begins, and what it tells of itself.
use Rattle.std.specs.Prelude.{ℕ, ◌^◌, ◌≤◌, false, [], length, None, replicate}
use Rattle.ax_address.specs.Callsign.{Callsign}
use Rattle.circuit_l4.specs.declared.pair.Pair.{Pair}
use Rattle.circuit_l4.specs.declared.transport.Transport.TheVariants.{Accept}
use Rattle.circuit_l4.specs.declared.config.EndConfig.{EndConfig}
use Rattle.circuit_l4.specs.declared.facts.EndFacts.{EndFacts}
use Rattle.circuit_l4.specs.declared.phase.EndPhase.TheVariants.{Connecting, Up}
use Rattle.circuit_l4.specs.declared.notice.EndNotice.TheVariants.{Opened}
use Rattle.circuit_l4.specs.declared.beginning.Beginning.{Beginning}
use Rattle.circuit_l4.specs.declared.role.Role.TheVariants.{Requester, Responder}
use Rattle.circuit_l4.specs.State.{Sending, unacknowledged, Receiving, waiting, State, Effect, begin}
use Rattle.circuit_l4.specs.Moves.{emit, note, wait}
use Rattle.circuit_l4.specs.Table.{common_window, ask_by}

-- the settings that an end takes
pub record IsConfig (config : EndConfig) : Type 0 where
  pub some : 1 ≤ config.window
  pub window : config.window ≤ 127
  pub timeout : config.timeout ≤ 2 ^ 62
  pub busy : config.busy ≤ 2 ^ 62
  pub inactive : config.inactive ≤ 2 ^ 62

-- nothing was written, nothing came
abbrev pub unwritten : Sending
unwritten = record { wrote = []; acked = 0; sent = 0 }

abbrev pub unheard : ℕ → Receiving
unheard window = record { got = 0; early = replicate window None; gathered = []; received = []; taken = 0; nak_sent_for = None }

-- an end that has known nothing yet
abbrev pub new : Beginning → EndConfig → ℕ → State
new b config now =
    record {
      role = b.role;
      pair = b.pair;
      to = b.to;
      config = config;
      phase = b.phase;
      window = b.window;
      sending = unwritten;
      receiving = unheard config.window;
      choked = false;
      closing = false;
      tries = 0;
      answer_due = None;
      last_active = now;
    }

abbrev pub unknown_pair : Pair
unknown_pair = record { index = 0; ident = 0 }

-- a requester asks the other end for a circuit
abbrev pub requesting : Pair → Callsign → Callsign → EndConfig → ℕ → Effect
requesting pair user node config now =
    let b : Beginning = record { role = Requester user node; pair = pair; to = unknown_pair; phase = Connecting; window = config.window } in
    ask_by b.role (begin (wait now (new b config now)))

-- a responder accepts at once
abbrev pub responding : Pair → Pair → ℕ → EndConfig → ℕ → Effect
responding pair partner proposed config now =
    let b : Beginning = record { role = Responder; pair = pair; to = partner; phase = Up; window = common_window config.window proposed } in
    note (Opened b.window) (emit (Accept partner pair b.window) (begin (new b config now)))

-- what an end tells of itself
abbrev pub facts_of : State → EndFacts
facts_of s =
    record {
      phase = s.phase;
      window = s.window;
      wrote = length s.sending.wrote;
      received = length s.receiving.received;
      acked = s.sending.acked;
      waiting = waiting s.receiving;
      queued = unacknowledged s.sending;
    }
