-- The bounds that a link keeps, whatever comes; where the payloads are from that it puts out and keeps; and how large what it holds
-- may be.
use Rattle.std.specs.Prelude.{◌≡◌, ℕ, ◌+◌, ◌<◌, ◌≤◌, List, length, Option, Bool, true, Some, None, ◌*◌, nat_le}
use Rattle.std.specs.List.{AllByRecursion}
use mathlib.Core.List.{IsSuffix}
use Rattle.radio_base.specs.declared.payload.Payload.{Payload}
use Rattle.ax_frame.specs.Frames.{HasParts}
use Rattle.ax_link.specs.State.{Rules, State, count_end, places}
use Rattle.ax_link.specs.Kinds.{control_of, info_of, kind_of, pid_of}
use Rattle.ax_link.specs.declared.out.LinkOut.{LinkOut}
use Rattle.ax_link.specs.Table.{Input, Set_up, Send, Arrive, Tick, Close, Take}

-- The bounds.

-- what of a state they speak of
pub record Stock : Type 0 where
  pub rules : Rules
  pub acked : ℕ
  pub sent : ℕ
  pub given : List Payload
  pub received : List Payload
  pub inbox : List Payload
  pub early : List (Option Payload)

abbrev pub stock : State → Stock
stock s =
    record { rules = s.rules; acked = s.acked; sent = s.sent; given = s.given; received = s.received; inbox = s.inbox; early = s.early }

-- No more is acknowledged than was put out, no more put out than the window and what was given let, and no more held than
-- 128 payloads. Counts end at 2^62. The inbox holds at most 64, which are the last of what was got.
pub record Bounded (s : Stock) : Type 0 where
  pub window : s.rules.window < s.rules.size
  pub acked : s.acked ≤ s.sent
  pub sent : s.sent ≤ s.acked + s.rules.window
  pub given : s.sent ≤ length s.given
  pub held : length s.given ≤ s.acked + 128
  pub numbers : length s.given ≤ count_end
  pub got : length s.received ≤ count_end
  pub places : length s.early ≡ places s.rules
  pub inbox : length s.inbox ≤ 64
  pub untaken : IsSuffix s.inbox s.received

-- What a link puts out, and where the payloads that it keeps are from.

-- a payload with this property
abbrev pub Has : (Payload → Bool) → Payload → Type 0
Has test p = test p ≡ true

-- where one is
abbrev pub HasIf : (Payload → Bool) → Option Payload → Type 0
HasIf test None = Unit {0}
HasIf test (Some p) = Has test p

-- all that was given has the one property, and all that came has the other
pub record HavePayloads (test test_came : Payload → Bool) (s : Stock) : Type 0 where
  pub given : AllByRecursion (Has test) s.given
  pub received : AllByRecursion (Has test_came) s.received
  pub inbox : AllByRecursion (Has test_came) s.inbox
  pub early : AllByRecursion (HasIf test_came) s.early

-- what an input brings has the property
abbrev pub Brings : (given came : Payload → Bool) → Input → Type 0
Brings given came (Send p) = Has given p
Brings given came (Arrive f) = HasIf came f.payload
Brings given came Set_up = Unit {0}
Brings given came Tick = Unit {0}
Brings given came Close = Unit {0}
Brings given came Take = Unit {0}

-- A frame that waits can be written: its numbers are below the modulus, and it has a PID and information exactly where its
-- kind has them. Its control field is the one of its kind.
pub record CanBeSent (size : ℕ) (out : LinkOut) : Type 0 where
  pub control : control_of size (kind_of size out.command out.control) ≡ out.control
  pub parts : HasParts size out.control (pid_of out.payload) (info_of out.payload)

abbrev pub AllCanBeSent : ℕ → List LinkOut → Type 0
AllCanBeSent size outs = AllByRecursion (CanBeSent size) outs

-- How large what a link holds may be.

-- the information field of an I frame has at most 256 octets (AX.25 2.2, section 6.7.2.3)
abbrev pub is_small : Payload → Bool
is_small p = nat_le (length p.info.items) 256

-- Each payload is small; and with SREJ, so where payloads are kept early, the window has at most half of the numbers.
pub record Sized (s : State) : Type 0 where
  pub payloads : HavePayloads is_small is_small (stock s)
  pub window : s.rules.srej ≡ true → 2 * s.rules.window ≤ s.rules.size
