-- An end of a link, its epochs and the frames under way to it. Own profile; the link is that of AX.25 2.2, section 6.
use Rattle.std.specs.Prelude.{ℕ, suc, Bool, true, false, not, ◌&&◌, ◌||◌, if◌then◌else◌, List, [], ◌∷◌, ◌++◌, length, map, Option, Some, None}
use Rattle.radio_base.specs.declared.payload.Payload.{Payload}
use Rattle.ax_link.specs.declared.kind.Kind.{Kind}
use Rattle.ax_link.specs.declared.kind.Kind.TheVariants.{I, Rr, Rnr, Rej, Srej}
use Rattle.ax_link.specs.declared.notice.LinkNotice.{LinkNotice}
use Rattle.ax_link.specs.declared.notice.LinkNotice.TheVariants.{Opened, Reset}
use Rattle.ax_link.specs.declared.phase.LinkPhase.{LinkPhase}
use Rattle.ax_link.specs.declared.phase.LinkPhase.TheVariants.{Down}
use Rattle.ax_link.specs.Opening.{opening}
use Rattle.ax_link.specs.State.{Effect, Frame, Rules, State, is_up}
pub use Rattle.ax_link.specs.State.{is_down}

-- a frame under way: when it was sent, and in which epoch of its sender, 0 where it had none then
pub record Flight : Type 0 where
  pub sent : ℕ
  pub epoch : ℕ
  pub frame : Frame

-- An epoch of an end: the payloads that it was given, those that it got, and how many of its own it counts as acknowledged.
-- And from which epochs of the other end the frames of account came that it took while Up, in their order.
pub record Epoch : Type 0 where
  pub given : List Payload
  pub received : List Payload
  pub acked : ℕ
  pub heard : List ℕ

pub record End : Type 0 where
  pub link : State
  pub over : List Epoch  -- the epochs that are over, in their order
  pub heard : Option (List ℕ)  -- where an epoch lasts: what it has heard
  pub down_since : Option ℕ  -- when the link went Down last
  pub coming : List Flight  -- what is under way to it, the oldest first

-- the epoch that lasts, if there is one: its lists are those of the link
abbrev pub lasting : State → Option (List ℕ) → List Epoch
lasting s None = []
lasting s (Some heard) = record { given = s.given; received = s.received; acked = s.acked; heard = heard } ∷ []

-- all epochs so far; they are numbered from 1
abbrev pub epochs : End → List Epoch
epochs e = e.over ++ lasting e.link e.heard

-- the number of the epoch that lasts, 0 where none does
abbrev pub number_by : ℕ → Option (List ℕ) → ℕ
number_by over None = 0
number_by over (Some heard) = suc over

abbrev pub number : End → ℕ
number e = number_by (length e.over) e.heard

-- the partner of an epoch: the one that sent the first frame that it heard, 0 where it heard none
abbrev pub partner_of : List ℕ → ℕ
partner_of [] = 0
partner_of (k ∷ ks) = k

-- a frame of account has numbers
abbrev pub is_of_account : Kind → Bool
is_of_account (I ns nr pf) = true
is_of_account (Rr nr pf) = true
is_of_account (Rnr nr pf) = true
is_of_account (Rej nr pf) = true
is_of_account (Srej nr pf) = true
is_of_account _ = false

-- an epoch begins with these notices, and the one before it is over
abbrev pub begins : LinkNotice → Bool
begins Opened = true
begins Reset = true
begins _ = false

abbrev pub any_begins : List LinkNotice → Bool
any_begins [] = false
any_begins (n ∷ ns) = begins n || any_begins ns

abbrev pub heed : List LinkNotice → End → End
heed notices e = if any_begins notices then record e { over = epochs e; heard = Some [] } else e

-- the end after a step of its link
abbrev pub after_step : Effect → End → End
after_step g e = record (heed g.notes e) { link = g.link }

-- a link that went Down is replaced by a new one, and the epoch is over
abbrev pub go_down : Rules → ℕ → End → End
go_down rules now e = record e { link = opening rules; over = epochs e; heard = None; down_since = Some now }

abbrev pub rest : Rules → ℕ → LinkPhase → End → End
rest rules now was e = if not (is_down was) && is_down e.link.phase then go_down rules now e else e

-- what has heard this, has heard one more
abbrev pub heard_more : ℕ → Option (List ℕ) → Option (List ℕ)
heard_more epoch None = None
heard_more epoch (Some heard) = Some (heard ++ epoch ∷ [])

-- a frame comes: an end that is Up hears it where it is of account
abbrev pub hear : Flight → End → End
hear f e = if is_up e.link.phase && is_of_account f.frame.kind then record e { heard = heard_more f.epoch e.heard } else e

-- frames set out
abbrev pub flights : ℕ → ℕ → List Frame → List Flight
flights now epoch frames = map (λ f. record { sent = now; epoch = epoch; frame = f }) frames

-- the end at which something is done, and the other one
pub record Ends : Type 0 where
  pub near : End
  pub far : End

-- A step of the near end's link: its notices are heeded, its frames set out in the epoch that lasts then, and a new link takes
-- its place where it went Down.
abbrev pub step_near : Rules → ℕ → Effect → Ends → Ends
step_near rules now g p =
    let after : End = after_step g p.near in
    record {
      near = rest rules now p.near.link.phase after;
      far = record p.far { coming = p.far.coming ++ flights now (number after) g.outs };
    }
