-- Two ends of a link over a channel that loses frames but neither reorders nor repeats them: what may happen, and what is
-- promised of it.
use Rattle.std.specs.Prelude.{◌≡◌, ℕ, suc, ◌+◌, ◌≤◌, Bool, true, false, ◌||◌, if◌then◌else◌, List, [], ◌∷◌, ◌++◌, length}
use mathlib.Core.List.{IsPrefix}
use Rattle.ax_link.specs.declared.kind.Kind.{Kind}
use Rattle.ax_link.specs.declared.kind.Kind.TheVariants.{SetUp}
use Rattle.ax_link.specs.declared.notice.LinkNotice.{LinkNotice}
use Rattle.ax_link.specs.declared.notice.LinkNotice.TheVariants.{Opened}
use Rattle.ax_link.specs.declared.phase.LinkPhase.TheVariants.{Down, Up}
use Rattle.radio_base.specs.declared.payload.Payload.{Payload}
use Rattle.ax_link.specs.State.{Rules, State, Frame, Effect, is_up}
use Rattle.ax_link.specs.Table.{Input, Set_up, Send, Arrive, Tick, Close, Take, step}
use Rattle.ax_link.specs.Pair.{Fits, IsNew, core}
use Rattle.ax_link.specs.Bounds.{Bounded, stock}
use Rattle.ax_link.specs.Opening.{opening, rules_new}

-- an end and its past
pub record End : Type 0 where
  pub link : State
  pub coming : List Frame  -- what is under way to it, the oldest first
  pub set_ups : ℕ  -- how many set-up commands it ever put out
  pub was_up : Bool  -- it is Up, or has been

pub record Ends : Type 0 where
  pub left : End
  pub right : End

abbrev pub swap : Ends → Ends
swap w = record { left = w.right; right = w.left }

abbrev pub sets_up : Kind → Bool
sets_up (SetUp pf) = true
sets_up _ = false

abbrev pub set_ups_in : List Frame → ℕ
set_ups_in [] = 0
set_ups_in (f ∷ fs) = if sets_up f.kind then suc (set_ups_in fs) else set_ups_in fs

abbrev pub opens_here : LinkNotice → Bool
opens_here Opened = true
opens_here _ = false

-- an end that is told Opened was Up, even where the same step ends the link
abbrev pub told_opened : List LinkNotice → Bool
told_opened [] = false
told_opened (n ∷ ns) = opens_here n || told_opened ns

-- an end after a step, with what is still coming
abbrev pub after : End → Effect → List Frame → End
after e g coming =
    record {
      link = g.link;
      coming = coming;
      set_ups = e.set_ups + set_ups_in g.outs;
      was_up = e.was_up || (is_up g.link.phase || told_opened g.notes);
    }

-- a step of the left end: what it puts out is under way to the right end, behind what is there
abbrev pub steps : Ends → Effect → List Frame → Ends
steps w g coming = record { left = after w.left g coming; right = record w.right { coming = w.right.coming ++ g.outs } }

-- a call or a tick at the left end. A frame never comes from anywhere but the other end
abbrev pub called : Ends → Input → ℕ → Ends
called w Set_up now = steps w (step w.left.link Set_up now) w.left.coming
called w (Send p) now = steps w (step w.left.link (Send p) now) w.left.coming
called w (Arrive f) now = w
called w Tick now = steps w (step w.left.link Tick now) w.left.coming
called w Close now = steps w (step w.left.link Close now) w.left.coming
called w Take now = steps w (step w.left.link Take now) w.left.coming

-- the oldest of these frames arrives at the left end
abbrev pub arrives : Ends → ℕ → List Frame → Ends
arrives w now [] = w
arrives w now (f ∷ fs) = steps w (step w.left.link (Arrive f) now) fs

-- the oldest of these frames is lost
abbrev pub loses : Ends → List Frame → Ends
loses w [] = w
loses w (f ∷ fs) = record w { left = record w.left { coming = fs } }

-- what may happen at an end. The moments are any
pub data Event : Type 0 where
  Calls : Input → ℕ → Event
  Comes : ℕ → Event
  Lost : Event

abbrev pub at_left : Ends → Event → Ends
at_left w (Calls i now) = called w i now
at_left w (Comes now) = arrives w now w.left.coming
at_left w Lost = loses w w.left.coming

pub data Side : Type 0 where
  Left : Side
  Right : Side

abbrev pub happens : Ends → Side → Event → Ends
happens w Left e = at_left w e
happens w Right e = swap (at_left (swap w) e)

abbrev pub run : Ends → List (Side × Event) → Ends
run w [] = w
run w (e ∷ es) = run (happens w e.0 e.1) es

abbrev pub new_end : Rules → End
new_end rules = record { link = opening rules; coming = []; set_ups = 0; was_up = false }

-- two links that were just made
abbrev pub new_ends : Rules → Rules → Ends
new_ends a b = record { left = new_end a; right = new_end b }

-- such of modulo 8 with a window of 4, with SREJ or without
abbrev pub two_new : Bool → Ends
two_new srej =
    let rules : Rules = rules_new 8 (record { window = 4; srej = srej; t1 = 3000; t3 = 300000; retries = 10 }) in
    new_ends rules rules

-- the left end sets the link up, and a payload goes to the right end and is acknowledged
abbrev pub carrying : Payload → List (Side × Event)
carrying p =
    (Left, Calls Set_up 0) ∷ (Right, Comes 0) ∷ (Left, Comes 0) ∷ (Left, Calls (Send p) 0) ∷ (Right, Comes 0) ∷ (Left, Comes 0) ∷ []

-- of two payloads the first is lost, and asked for alone once the second has come before its turn; both are acknowledged
abbrev pub losing : Payload → Payload → List (Side × Event)
losing p q =
    (Left, Calls Set_up 0) ∷ (Right, Comes 0) ∷ (Left, Comes 0) ∷ (Left, Calls (Send p) 0) ∷ (Left, Calls (Send q) 0)
    ∷ (Right, Lost) ∷ (Right, Comes 0) ∷ (Left, Comes 0) ∷ (Right, Comes 0) ∷ (Left, Comes 0) ∷ []

-- both ends are Down and new, nothing is under way or was put out, and the windows fit the one modulus
pub record Starts (w : Ends) : Type 0 where
  pub left_down : w.left.link.phase ≡ Down
  pub right_down : w.right.link.phase ≡ Down
  pub left_new : IsNew w.left.link
  pub right_new : IsNew w.right.link
  pub left_coming : w.left.coming ≡ []
  pub right_coming : w.right.coming ≡ []
  pub left_set_ups : w.left.set_ups ≡ 0
  pub right_set_ups : w.right.set_ups ≡ 0
  pub rightward : Fits (core w.left.link) (core w.right.link)
  pub leftward : Fits (core w.right.link) (core w.left.link)

-- at most one set-up command was ever put out, and no end that has been Up has left Up
pub record Clean (w : Ends) : Type 0 where
  pub set_ups : w.left.set_ups + w.right.set_ups ≤ 1
  pub left : w.left.was_up ≡ true → w.left.link.phase ≡ Up
  pub right : w.right.was_up ≡ true → w.right.link.phase ≡ Up

-- a run that is clean at each moment
abbrev pub CleanRun : Ends → List (Side × Event) → Type 0
CleanRun w [] = Clean w
CleanRun w (e ∷ es) = Clean w × CleanRun (happens w e.0 e.1) es

-- what was got at an end and taken, which is all but what the inbox holds, is a beginning of what was given to the other
pub record TakenIn (from to : State) : Type 0 where
  pub take_plain : List Payload
  pub rest : take_plain ++ to.inbox ≡ to.received
  pub begun : IsPrefix take_plain from.given

pub record TakenSafe (w : Ends) : Type 0 where
  pub right : TakenIn w.left.link w.right.link
  pub left : TakenIn w.right.link w.left.link

-- the links are within their bounds
pub record EndsBounded (w : Ends) : Type 0 where
  pub left : Bounded (stock w.left.link)
  pub right : Bounded (stock w.right.link)

-- each end has got a beginning of what was given to the other, and counts as acknowledged no more than the other has got
pub record Safe (w : Ends) : Type 0 where
  pub right_got : IsPrefix w.right.link.received w.left.link.given
  pub left_got : IsPrefix w.left.link.received w.right.link.given
  pub left_acked : w.left.link.acked ≤ length w.right.link.received
  pub right_acked : w.right.link.acked ≤ length w.left.link.received
