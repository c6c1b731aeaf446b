-- What the code keeps of an end of a link, what it has forgotten, and how many octets it keeps at most.
use Rattle.std.specs.Prelude.{◌≡◌, ℕ, ◌+◌, ◌≤◌, Bool, List, [], ◌++◌, map, length, Option, None, ◌*◌, ◌∷◌, Some}
use Rattle.std.specs.Option.{option_to_list}
use Rattle.radio_base.specs.declared.payload.Payload.{Payload}
use Rattle.ax_link.specs.declared.phase.LinkPhase.{LinkPhase}
use Rattle.ax_link.specs.declared.notice.LinkNotice.{LinkNotice}
use Rattle.ax_link.specs.declared.out.LinkOut.{LinkOut}
use Rattle.ax_link.specs.Bounds.{Bounded, stock, Sized}
use Rattle.ax_link.specs.Kinds.{kind_of}
use Rattle.ax_link.specs.State.{Frame, Rules, State, Effect, t1_runs}

-- what is kept: of the payloads that were accepted those that aren't acknowledged, and of what came what wasn't taken
pub record LinkView : Type 0 where
  pub window : ℕ
  pub t1 : ℕ
  pub t3 : ℕ
  pub retries : ℕ
  pub srej : Bool
  pub phase : LinkPhase
  pub queue : List Payload
  pub acked : ℕ
  pub sent : ℕ
  pub got : ℕ
  pub early : List (Option Payload)
  pub inbox : List Payload
  pub tries : ℕ
  pub polling : Bool
  pub peer_busy : Bool
  pub rej_sent : Bool
  pub closing : Bool
  pub t1_at : ℕ
  pub last_arrival : ℕ
  pub t1_stopped_at : ℕ
  pub outs : List LinkOut
  pub notice : Option LinkNotice

-- a frame that waits to be sent, by its kind
abbrev pub frame_of : ℕ → LinkOut → Frame
frame_of size out = record { command = out.command; kind = kind_of size out.command out.control; payload = out.payload }

abbrev pub rules_of : ℕ → LinkView → Rules
rules_of size h = record { size = size; window = h.window; srej = h.srej; t1 = h.t1; t3 = h.t3; retries = h.retries }

-- the state in which these payloads were acknowledged, and these were got
abbrev pub state_of : ℕ → LinkView → List Payload → List Payload → State
state_of size h before received =
    record {
      rules = rules_of size h;
      phase = h.phase;
      given = before ++ h.queue;
      acked = h.acked;
      sent = h.sent;
      received = received;
      early = h.early;
      inbox = h.inbox;
      tries = h.tries;
      polling = h.polling;
      peer_busy = h.peer_busy;
      rej_sent = h.rej_sent;
      closing = h.closing;
      t1_at = h.t1_at;
      last_arrival = h.last_arrival;
      t1_stopped_at = h.t1_stopped_at;
    }

-- the same, with the frames and the notice that wait
abbrev pub effect_of : ℕ → LinkView → List Payload → List Payload → Effect
effect_of size h before received =
    record { link = state_of size h before received; outs = map (frame_of size) h.outs; notes = option_to_list h.notice }

-- what is kept is that of a state, but for what was forgotten: the payloads that were acknowledged, and those that were got
pub record Keeps (size : ℕ) (h : LinkView) (s : State) : Type 0 where
  pub before : List Payload
  pub received : List Payload
  pub acked : length before ≡ h.acked
  pub got : length received ≡ h.got
  pub is : s ≡ state_of size h before received

-- the same of a step under way
pub record KeepsEffect (size : ℕ) (h : LinkView) (g : Effect) : Type 0 where
  pub before : List Payload
  pub received : List Payload
  pub acked : length before ≡ h.acked
  pub got : length received ≡ h.got
  pub is : g ≡ effect_of size h before received

-- what is kept stands for a state within its bounds and sizes that differs from it in nothing but what was forgotten
pub record StandsFor (size : ℕ) (h : LinkView) (s : State) : Type 0 where
  pub keeps : Keeps size h s
  pub bounds : Bounded (stock s)
  pub sized : Sized s

-- the same of a step that was done, with the frames and the notice that wait
pub record Stands (size : ℕ) (h : LinkView) (g : Effect) : Type 0 where
  pub keeps : KeepsEffect size h g
  pub bounds : Bounded (stock g.link)
  pub sized : Sized g.link

-- whether T1 runs
abbrev pub runs : LinkView → Bool
runs h = t1_runs (state_of 0 h [] [])

-- a call adds at most so many frames to those that wait, and leaves the window and the notice
pub record Adds (k : ℕ) (old new : LinkView) : Type 0 where
  pub window : new.window ≡ old.window
  pub outs : length new.outs ≤ length old.outs + k
  pub notice : new.notice ≡ old.notice

-- no frame and no notice waits
pub record IsDrained (h : LinkView) : Type 0 where
  pub outs : h.outs ≡ []
  pub notice : h.notice ≡ None

-- What an end of a link keeps, in octets, and the most that it may (this project's profile). Frames that wait to be fetched are left out.

-- the octets of payloads
abbrev pub octets : List Payload → ℕ
octets [] = 0
octets (p ∷ ps) = length p.info.items + octets ps

-- the octets of those that have a place early
abbrev pub early_octets : List (Option Payload) → ℕ
early_octets [] = 0
early_octets (None ∷ early) = early_octets early
early_octets (Some p ∷ early) = length p.info.items + early_octets early

-- what waits for the other station, what came early, and what came and wasn't taken: these are all rings of a link
abbrev pub kept : LinkView → ℕ
kept h = octets h.queue + early_octets h.early + octets h.inbox

-- The most of it: 128 payloads wait, one for each of half the numbers came early, and 64 weren't taken, each of 256 octets. So these are
-- 50,176 octets of modulo 8, and 65,536 of modulo 128
abbrev pub share : ℕ → ℕ
share size = 32768 + 128 * size + 16384

-- a link keeps no more than its share
abbrev pub KeepsItsShare : Type 0
KeepsItsShare = (size : ℕ) (h : LinkView) (s : State) → StandsFor size h s → kept h ≤ share size
