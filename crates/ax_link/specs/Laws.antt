-- What each step of a link keeps, tells and puts out.
use Rattle.std.specs.Prelude.{◌≡◌, ℕ, min, Bool, true, false, ◌&&◌, nat_eq, nat_le, if◌then◌else◌, Option, Some, None}
use Rattle.std.specs.List.{AllByRecursion}
use Rattle.std.specs.Option.{option_to_list}
use Rattle.ax_link.specs.declared.kind.Kind.{Kind}
use Rattle.ax_link.specs.declared.kind.Kind.TheVariants.{I, SetUp, OtherSetUp, Disc, Dm, Ua, Frmr, Xid, Other}
use Rattle.ax_link.specs.declared.notice.LinkNotice.{LinkNotice}
use Rattle.ax_link.specs.declared.notice.LinkNotice.TheVariants.{Opened, Reset, Closed, Refused, Failed}
use Rattle.ax_link.specs.declared.phase.LinkPhase.{LinkPhase}
use Rattle.ax_link.specs.declared.phase.LinkPhase.TheVariants.{Down, SettingUp, Up, Releasing}
use Rattle.ax_frame.specs.Frames.{HasParts}
use Rattle.ax_link.specs.Bounds.{Bounded, stock, Brings, HasIf, HavePayloads}
use Rattle.ax_link.specs.Kinds.{control_of, info_of, pid_of}
use Rattle.ax_link.specs.State.{Frame, State, count_end, t1_runs}
use Rattle.ax_link.specs.Table.{Input, Set_up, Send, Arrive, Tick, Close, Take, step}
use Rattle.radio_base.specs.declared.payload.Payload.{Payload}

-- the settings stay
abbrev pub SettingsStay : Type 0
SettingsStay = (s : State) (i : Input) (now : ℕ) → (step s i now).link.rules ≡ s.rules

-- each step keeps the bounds
abbrev pub BoundsStay : Type 0
BoundsStay = (s : State) (i : Input) (now : ℕ) → Bounded (stock s) → Bounded (stock (step s i now).link)

-- whatever properties are asked: each step keeps them, and each payload that it puts out has the first
abbrev pub PayloadsStay : Type 0
PayloadsStay =
    (given came : Payload → Bool) (s : State) (i : Input) (now : ℕ) → Bounded (stock s) → Brings given came i →
    HavePayloads given came (stock s) →
    HavePayloads given came (stock (step s i now).link) × AllByRecursion (λ f. HasIf given f.payload) (step s i now).outs

-- the notice of a frame that comes in this phase
abbrev pub notice_at : LinkPhase → Kind → Option LinkNotice
notice_at Down (SetUp pf) = Some Opened
notice_at SettingUp (Ua true) = Some Opened
notice_at SettingUp (Dm true) = Some Refused
notice_at Up (SetUp pf) = Some Reset
notice_at Up (Frmr pf) = Some Reset
notice_at Up (Disc pf) = Some Closed
notice_at Up (Dm pf) = Some Closed
notice_at Releasing (Ua true) = Some Closed
notice_at Releasing (Dm true) = Some Closed
notice_at _ _ = None

-- T1 has come, and no try is left
abbrev pub gives_up : State → ℕ → Bool
gives_up s now = t1_runs s && (nat_le s.t1_at (min now count_end) && nat_eq s.tries s.rules.retries)

-- the notice of a step
abbrev pub notice_of : State → Input → ℕ → Option LinkNotice
notice_of s (Arrive f) now = notice_at s.phase f.kind
notice_of s Tick now = if gives_up s now then Some Failed else None
notice_of s Set_up now = None
notice_of s (Send p) now = None
notice_of s Close now = None
notice_of s Take now = None

-- a step gives this notice or none, and no other
abbrev pub NoticesAre : Type 0
NoticesAre = (s : State) (i : Input) (now : ℕ) → (step s i now).notes ≡ option_to_list (notice_of s i now)

-- whether a frame of this kind may go out in a step that begins in this phase; where the step opens the link, I and DISC may
abbrev pub may_go_out : LinkPhase → Kind → Bool
may_go_out Down (SetUp pf) = true
may_go_out Down (Ua pf) = true
may_go_out Down (Dm pf) = true
may_go_out Down _ = false
may_go_out SettingUp (SetUp pf) = true
may_go_out SettingUp (Ua pf) = true
may_go_out SettingUp (Dm pf) = true
may_go_out SettingUp (I ns nr pf) = true
may_go_out SettingUp (Disc pf) = true
may_go_out SettingUp _ = false
may_go_out Up (OtherSetUp pf) = false
may_go_out Up (Frmr pf) = false
may_go_out Up (Xid pf) = false
may_go_out Up Other = false
may_go_out Up _ = true
may_go_out Releasing (Ua pf) = true
may_go_out Releasing (Dm pf) = true
may_go_out Releasing (Disc pf) = true
may_go_out Releasing _ = false

-- each frame that a step puts out is of such a kind
abbrev pub KindsGoOut : Type 0
KindsGoOut =
    (s : State) (i : Input) (now : ℕ) → Bounded (stock s) →
    AllByRecursion (λ f. may_go_out s.phase f.kind ≡ true) (step s i now).outs

-- A frame can be written, with sequence numbers of this modulus: its numbers are below the modulus, and it has a PID and information
-- exactly where its kind has them. Where it sets a link up, that is of this modulus.
pub record CanBeWritten (size : ℕ) (f : Frame) : Type 0 where
  pub parts : HasParts size (control_of size f.kind) (pid_of f.payload) (info_of f.payload)
  pub sets_up : (pf : Bool) → f.kind ≡ OtherSetUp pf → ⊥

-- each frame that a step puts out can
abbrev pub FramesCanBeWritten : Type 0
FramesCanBeWritten = (s : State) (i : Input) (now : ℕ) → Bounded (stock s) → AllByRecursion (CanBeWritten s.rules.size) (step s i now).outs
