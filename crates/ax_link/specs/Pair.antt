-- Two links and what is under way between them.
use Rattle.std.specs.Prelude.{◌≡◌, ℕ, suc, ◌+◌, ◌<◌, ◌≤◌, ◌%◌, max, Bool, true, false, IsTrue, if◌then◌else◌, List, [], ◌∷◌, ◌++◌, length, Option, Some, None, slice_get, ◌⊎◌}
use mathlib.Core.List.{IsPrefix}
use Rattle.ax_link.specs.declared.kind.Kind.{Kind}
use Rattle.ax_link.specs.declared.kind.Kind.TheVariants.{I, Rr, Rnr, Rej, Srej, Ua, SetUp, Frmr}
use Rattle.ax_link.specs.State.{Rules, State, Frame, Effect, high, top}
use Rattle.ax_link.specs.Table.{Input, Arrive}
use Rattle.ax_link.specs.declared.phase.LinkPhase.TheVariants.{Down, SettingUp, Up, Releasing}
use Rattle.ax_link.specs.declared.phase.LinkPhase.{LinkPhase}
use Rattle.radio_base.specs.declared.payload.Payload.{Payload}

-- there are numbers, not falling, from low to got, of which these are the wire forms
abbrev pub AcksFine : ℕ → ℕ → List ℕ → ℕ → Type 0
AcksFine size got [] low = low ≤ got
AcksFine size got (r ∷ rs) low = (h : ℕ) × (h % size ≡ r) × (low ≤ h) × AcksFine size got rs h

-- each text under way is a payload of given; reach is one more than the highest number known where it arrives
abbrev pub TextsFine : {A : Type 0} → List A → ℕ → ℕ → ℕ → List (ℕ × A) → ℕ → Type 0
TextsFine given size window sent [] reach = reach ≤ sent
TextsFine given size window sent (t ∷ ts) reach =
    (n : ℕ) × (n % size ≡ t.0) × (slice_get given n ≡ Some t.1) × (reach ≤ n + window) × TextsFine given size window sent ts (max reach (suc n))

-- each early payload is the one of its number; the first place stands for number base
abbrev pub EarlyFine : {A : Type 0} → List A → ℕ → List (Option A) → Type 0
EarlyFine given base [] = Unit {0}
EarlyFine given base (None ∷ e) = EarlyFine given (suc base) e
EarlyFine given base (Some p ∷ e) = (slice_get given base ≡ Some p) × EarlyFine given (suc base) e

-- the number and the payload of an I frame
abbrev pub text_of : Kind → Option Payload → List (ℕ × Payload)
text_of (I ns nr pf) (Some p) = (ns, p) ∷ []
text_of _ _ = []

-- the number by which a frame acknowledges
abbrev pub ack_of : Kind → Option Payload → List ℕ
ack_of (I ns nr pf) (Some p) = nr ∷ []
ack_of (Rr nr pf) p = nr ∷ []
ack_of (Rnr nr pf) p = nr ∷ []
ack_of (Rej nr pf) p = nr ∷ []
ack_of (Srej nr true) p = nr ∷ []
ack_of _ _ = []

abbrev pub texts_of : List Frame → List (ℕ × Payload)
texts_of [] = []
texts_of (f ∷ fs) = text_of f.kind f.payload ++ texts_of fs

abbrev pub acks_of : List Frame → List ℕ
acks_of [] = []
acks_of (f ∷ fs) = ack_of f.kind f.payload ++ acks_of fs

abbrev pub opens : Kind → Bool
opens (Ua pf) = pf
opens _ = false

abbrev pub after_ua : List Frame → List Frame
after_ua [] = []
after_ua (f ∷ fs) = if opens f.kind then fs else after_ua fs

-- the frames of account on the way to an end in this phase
abbrev pub counted : LinkPhase → List Frame → List Frame
counted Down fs = fs
counted SettingUp fs = after_ua fs
counted Up fs = fs
counted Releasing fs = fs

-- what the soundness of a pair speaks of
pub record Core : Type 0 where
  pub rules : Rules
  pub given : List Payload
  pub acked : ℕ
  pub sent : ℕ
  pub received : List Payload
  pub early : List (Option Payload)

abbrev pub core : State → Core
core s = record { rules = s.rules; given = s.given; acked = s.acked; sent = s.sent; received = s.received; early = s.early }

abbrev pub reach : Core → ℕ
reach s = length s.received + top s.early

-- the windows fit the numbers
pub record Fits (a b : Core) : Type 0 where
  pub size : b.rules.size ≡ a.rules.size
  pub window : a.rules.window < a.rules.size
  pub both : IsTrue b.rules.srej → a.rules.window + b.rules.window ≤ a.rules.size

-- payloads from a to b
pub record Way (a b : Core) (forth back : List Frame) : Type 0 where
  pub fits : Fits a b
  pub begun : IsPrefix b.received a.given
  pub early : EarlyFine a.given (length b.received) b.early
  pub texts : TextsFine a.given a.rules.size a.rules.window a.sent (texts_of forth) (reach b)
  pub acks : AcksFine a.rules.size (length b.received) (acks_of back) a.acked
  pub window : a.sent ≤ a.acked + a.rules.window
  pub room : a.sent ≤ length a.given

-- both ways between me and the other end, with the frames of account on the way to me and to it
pub record Both (me other : Core) (to_me to_other : List Frame) : Type 0 where
  pub out : Way me other to_other to_me
  pub back : Way other me to_me to_other

-- one end is Up, the other is Up or SettingUp
abbrev pub Joined : LinkPhase → LinkPhase → Type 0
Joined Up Up = Unit {0}
Joined Up SettingUp = Unit {0}
Joined SettingUp Up = Unit {0}
Joined _ _ = ⊥

abbrev pub opens_count : List Frame → ℕ
opens_count [] = 0
opens_count (f ∷ fs) = if opens f.kind then suc (opens_count fs) else opens_count fs

-- an end that is SettingUp has counted nothing, and at most one UA with F is on the way to it
abbrev pub SettingFine : LinkPhase → State → List Frame → Type 0
SettingFine SettingUp s fs = (s.acked ≡ 0) × (s.sent ≡ 0) × (high s ≡ 0) × (opens_count fs ≤ 1)
SettingFine Up s fs = Unit {0}
SettingFine Down s fs = Unit {0}
SettingFine Releasing s fs = Unit {0}

pub record PairSound (left right : State) (to_left to_right : List Frame) : Type 0 where
  pub joined : Joined left.phase right.phase
  pub left_new : SettingFine left.phase left to_left
  pub right_new : SettingFine right.phase right to_right
  pub rightward : Way (core left) (core right) (counted right.phase to_right) (counted left.phase to_left)
  pub leftward : Way (core right) (core left) (counted left.phase to_left) (counted right.phase to_right)

-- counts are 0, nothing was got and nothing is early
pub record IsNew (s : State) : Type 0 where
  pub acked : s.acked ≡ 0
  pub sent : s.sent ≡ 0
  pub high : high s ≡ 0

-- no set-up command
abbrev pub NoSetUp : Kind → Type 0
NoSetUp (SetUp pf) = ⊥
NoSetUp _ = Unit {0}

abbrev pub NoSetUps : List Frame → Type 0
NoSetUps [] = Unit {0}
NoSetUps (f ∷ fs) = NoSetUp f.kind × NoSetUps fs

abbrev pub NoSetUpIn : Input → Type 0
NoSetUpIn (Arrive f) = NoSetUp f.kind
NoSetUpIn _ = Unit {0}

-- the oldest frame arrives, or the queue stays
abbrev pub Queue : Input → List Frame → List Frame → Type 0
Queue (Arrive f) before after = before ≡ f ∷ after
Queue _ before after = before ≡ after

-- the steps of which the law speaks
pub record InScope (l : State) (i : Input) (g : Effect) : Type 0 where
  pub put_out : NoSetUps g.outs
  pub comes : NoSetUpIn i
  pub up : l.phase ≡ Up → g.link.phase ≡ Up
  pub setting : l.phase ≡ SettingUp → (g.link.phase ≡ SettingUp) ⊎ (g.link.phase ≡ Up)

-- neither a set-up command nor FRMR, by which an end that is Up begins anew
abbrev pub NoRestart : Kind → Type 0
NoRestart (SetUp pf) = ⊥
NoRestart (Frmr pf) = ⊥
NoRestart _ = Unit {0}

abbrev pub NoRestartIn : Input → Type 0
NoRestartIn (Arrive f) = NoRestart f.kind
NoRestartIn _ = Unit {0}

-- a frame that brings no payload, acknowledges nothing and opens no end
pub record OfNoAccount (f : Frame) : Type 0 where
  pub text : text_of f.kind f.payload ≡ []
  pub ack : ack_of f.kind f.payload ≡ []
  pub opens : opens f.kind ≡ false
