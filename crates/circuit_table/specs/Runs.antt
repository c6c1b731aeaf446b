-- A run of sets at nodes, in which any datagram whatever may arrive and any node may start again.
use Rattle.std.specs.Prelude.{◌≡◌, ℕ, ◌≤◌, if◌then◌else◌, List, [], ◌∷◌, ◌++◌, nat_eq, slice_get, slice_set, Option, Some, None}
use Rattle.ax_address.specs.Callsign.{Callsign, IsCallsign}
use Rattle.circuit_l4.specs.Opening.{IsConfig}
use Rattle.circuit_table.specs.Pairs.{IsPair}
use Rattle.circuit_l4.specs.Expiries.{Moment, expiries}
use Rattle.circuit_table.specs.Sets.{Act, Call, Calls, Connect, ConnectFor, Restart, Ticks, Holder, SetState, CircuitTold, end_of, set_step}
use Rattle.circuit_table.specs.Events.{Event, Name}

-- a step of the set at a node
pub record Step : Type 0 where
  pub node : ℕ
  pub act : Act

abbrev pub events_at : ℕ → Callsign → List CircuitTold → List Event
events_at node own [] = []
events_at node own (t ∷ ts) = record { node = node; own = own; told = t } ∷ events_at node own ts

abbrev pub told_at : List SetState → ℕ → Option SetState → Act → List Event
told_at sets node None act = []
told_at sets node (Some s) act = events_at node s.own (set_step s act).told

abbrev pub sets_at : List SetState → ℕ → Option SetState → Act → List SetState
sets_at sets node None act = sets
sets_at sets node (Some s) act = slice_set sets node (set_step s act).set

-- the sets after these steps
abbrev pub sets_run : List SetState → List Step → List SetState
sets_run sets [] = sets
sets_run sets (st ∷ sts) = sets_run (sets_at sets st.node (slice_get sets st.node) st.act) sts

-- what is told, step by step
abbrev pub events_of : List SetState → List Step → List Event
events_of sets [] = []
events_of sets (st ∷ sts) =
    told_at sets st.node (slice_get sets st.node) st.act ++ events_of (sets_at sets st.node (slice_get sets st.node) st.act) sts

-- ---- the start ----
pub record IsStart (s : SetState) : Type 0 where
  pub own : IsCallsign s.own.letters s.own.ssid
  pub user : IsCallsign s.user.letters s.user.ssid
  pub config : IsConfig s.config
  pub pair : IsPair s.next
  pub first : 1 ≤ s.number
  pub none : s.ends ≡ []

abbrev pub AreStarts : List SetState → Type 0
AreStarts [] = Unit {0}
AreStarts (s ∷ ss) = IsStart s × AreStarts ss

-- a circuit is asked for at a call and for one, and a node starts again at a pair
abbrev pub IsAct : Act → Type 0
IsAct (Connect dest now) = IsCallsign dest.letters dest.ssid
IsAct (ConnectFor user dest now) = IsCallsign user.letters user.ssid × IsCallsign dest.letters dest.ssid
IsAct (Restart pair more) = IsPair pair
IsAct _ = Unit {0}

abbrev pub AreSteps : List Step → Type 0
AreSteps [] = Unit {0}
AreSteps (st ∷ sts) = IsAct st.act × AreSteps sts

-- ---- ends by name ----
abbrev pub end_in : Option SetState → ℕ → Option Holder
end_in None id = None
end_in (Some s) id = end_of id s.ends

-- the end of this name
abbrev pub end_named : List SetState → Name → Option Holder
end_named sets x = end_in (slice_get sets x.node) x.id

-- ---- expiries ----
-- when a call of an end was a tick
abbrev pub tick_by : Call → ℕ → Option ℕ
tick_by Ticks now = Some now
tick_by _ now = None

-- when an input of a set was a tick of the end of this number
abbrev pub tick_of : Act → ℕ → Option ℕ
tick_of (Calls called call now) id = if nat_eq called id then tick_by call now else None
tick_of _ id = None

abbrev pub tick_at : Step → Name → Option ℕ
tick_at st x = if nat_eq st.node x.node then tick_of st.act x.id else None

-- an end before and after a step; nothing comes to one that is held no longer
abbrev pub moment_between : Option Holder → Option ℕ → Option Holder → List Moment
moment_between (Some h) tick (Some k) = if h.gone then [] else record { was = h.end; tick = tick; is = k.end } ∷ []
moment_between _ tick _ = []

-- what has become of an end, step by step from its making
abbrev pub moments : List SetState → List Step → Name → List Moment
moments sets [] x = []
moments sets (st ∷ sts) x =
    let next : List SetState = sets_at sets st.node (slice_get sets st.node) st.act in
    moment_between (end_named sets x) (tick_at st x) (end_named next x) ++ moments next sts x

-- how many expiries there were since the last advance of what is acknowledged, since the end began to close, or else since its making
abbrev pub expiries_in : List SetState → List Step → Name → ℕ
expiries_in sets steps x = expiries (moments sets steps x)

-- No set's own window is above 64.
abbrev pub AreNarrow : List SetState → Type 0
AreNarrow [] = Unit {0}
AreNarrow (s ∷ ss) = (s.config.window ≤ 64) × AreNarrow ss
