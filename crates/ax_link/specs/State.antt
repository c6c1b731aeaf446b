-- One end of a link: what it knows (AX.25 2.2, section 4.2, with the choices of this project's profile).
use Rattle.std.specs.Prelude.{ℕ, ◌+◌, ◌-◌, ◌%◌, max, Bool, true, false, not, ◌&&◌, ◌||◌, nat_eq, nat_lt, nat_le, if◌then◌else◌, List, [], ◌∷◌, length, Option, Some, None, suc}
use Rattle.radio_base.specs.declared.payload.Payload.{Payload}
use Rattle.radio_base.specs.Modulus.{place_of}
use Rattle.ax_link.specs.declared.phase.LinkPhase.{LinkPhase}
use Rattle.ax_link.specs.declared.phase.LinkPhase.TheVariants.{Down, Up}
use Rattle.ax_link.specs.declared.notice.LinkNotice.{LinkNotice}
use Rattle.ax_link.specs.declared.kind.Kind.{Kind}

-- where counts and moments end: 2^62
abbrev pub count_end : ℕ
count_end = 4611686018427387904

-- a frame that is put out, or under way. An I frame without a payload is one that no link takes
pub record Frame : Type 0 where
  pub command : Bool
  pub kind : Kind
  pub payload : Option Payload

-- what stays: the modulus, the window that is used, the times in milliseconds
pub record Rules : Type 0 where
  pub size : ℕ
  pub window : ℕ  -- k
  pub srej : Bool
  pub t1 : ℕ
  pub t3 : ℕ
  pub retries : ℕ  -- N2

-- with SREJ each number of the window has a place where a payload can be kept early; without SREJ none has
abbrev pub places : Rules → ℕ
places rules = if rules.srej then rules.window else 0

pub record State : Type 0 where
  pub rules : Rules
  pub phase : LinkPhase
  pub given : List Payload  -- what was accepted for the other station since the link was Down or reset
  pub acked : ℕ  -- how many of them the other station has: V(A)
  pub sent : ℕ  -- how many were put out: V(S)
  pub received : List Payload  -- what was got from it; their number is the next one expected: V(R)
  pub early : List (Option Payload)  -- what came before its turn; the first place is for the next one expected
  pub inbox : List Payload  -- what was got and not taken
  pub tries : ℕ  -- expiries without an answer so far: RC
  pub polling : Bool
  pub peer_busy : Bool
  pub rej_sent : Bool  -- a REJ was put out and not answered
  pub closing : Bool
  pub t1_at : ℕ  -- when T1 comes, while it runs
  pub last_arrival : ℕ  -- the last arrival
  pub t1_stopped_at : ℕ  -- when T1 last stopped, 0 where it never did

-- a step under way: the state, the frames that it puts out and the notices that it gives, in order
pub record Effect : Type 0 where
  pub link : State
  pub outs : List Frame
  pub notes : List LinkNotice

abbrev pub begin : State → Effect
begin s = record { link = s; outs = []; notes = [] }

-- a number as it stands on the air
abbrev pub wire : State → ℕ → ℕ
wire s n = n % s.rules.size

-- no room for what comes
abbrev pub busy : State → Bool
busy s = nat_le 64 (length s.inbox)

-- 1 more than the last place that is filled, 0 where none is
abbrev pub top : List (Option Payload) → ℕ
top [] = 0
top (None ∷ early) = if nat_eq (top early) 0 then 0 else suc (top early)
top (Some p ∷ early) = suc (top early)

-- one more than the highest number that is known
abbrev pub high : State → ℕ
high s = length s.received + top s.early

-- where N(R) stands among what is put out and not acknowledged
abbrev pub ack_place : State → ℕ → Option ℕ
ack_place s nr = place_of s.rules.size nr s.acked (suc (s.sent - s.acked))

abbrev pub is_up : LinkPhase → Bool
is_up Up = true
is_up _ = false

abbrev pub is_down : LinkPhase → Bool
is_down Down = true
is_down _ = false

-- T1 runs while an answer is awaited
abbrev pub runs_in : LinkPhase → State → Bool
runs_in Down s = false
runs_in Up s = nat_lt s.acked s.sent || (s.polling || s.peer_busy)
runs_in _ s = true

abbrev pub t1_runs : State → Bool
t1_runs s = runs_in s.phase s

-- after a change from old: T1 begins to run, or has stopped
abbrev pub update_t1 : ℕ → State → State → State
update_t1 now old s = record s {
  t1_at = if not (t1_runs old) && t1_runs s then now + s.rules.t1 else s.t1_at;
  t1_stopped_at = if t1_runs old && not (t1_runs s) then now else s.t1_stopped_at;
}

-- T1 begins anew
abbrev pub restart_t1 : ℕ → State → State
restart_t1 now s = record s { t1_at = now + s.rules.t1 }

-- T3 comes so long after the last arrival and after T1's last stop, whichever is later
abbrev pub t3_at : State → ℕ
t3_at s = max s.last_arrival s.t1_stopped_at + s.rules.t3
