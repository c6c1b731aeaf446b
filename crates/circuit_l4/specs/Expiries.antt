-- How often an end has waited in vain for an answer, counted over what it was given: no count of the end's own is asked (this
-- project's profile).
use Rattle.std.specs.Prelude.{ℕ, ◌+◌, ◌^◌, min, Bool, true, false, not, ◌&&◌, ◌||◌, nat_lt, nat_le, if◌then◌else◌, List, [], ◌∷◌, Option, Some, None}
use Rattle.circuit_l4.specs.declared.phase.EndPhase.{EndPhase}
use Rattle.circuit_l4.specs.declared.phase.EndPhase.TheVariants.{Up, Closing, Ended}
use Rattle.circuit_l4.specs.State.{State, is_up}
use Rattle.circuit_l4.specs.Table.{Input, Write, Arrive, Tick, Close, Take, is_due, step}

-- an input, by the end before and after it
pub record Moment : Type 0 where
  pub was : State
  pub tick : Option ℕ  -- when it was, if it was a tick
  pub is : State

-- ---- an expiry ----
-- an answer is awaited: the end is connecting, up and not choked, or closing
abbrev pub awaits : EndPhase → Bool → Bool
awaits Up choked = not choked
awaits Ended choked = false
awaits _ choked = true

-- nothing was written and nothing came for too long, so that a tick ends the circuit for that
abbrev pub is_inactive : State → ℕ → Bool
is_inactive s now = is_up s.phase && nat_le (s.last_active + s.config.inactive) now

-- an expiry is a tick at which an awaited answer is due, and that doesn't end the circuit as inactive
abbrev pub expires_at : State → Option ℕ → Bool
expires_at s None = false
expires_at s (Some now) =
    let at : ℕ = min now (2 ^ 62) in
    not (is_inactive s at) && is_due s.answer_due at && awaits s.phase s.choked

abbrev pub expires : Moment → Bool
expires m = expires_at m.was m.tick

-- ---- since when they count ----
abbrev pub is_closing : EndPhase → Bool
is_closing Closing = true
is_closing _ = false

-- more is acknowledged than before, or the end has begun to close
abbrev pub is_anew : State → State → Bool
is_anew s t = nat_lt s.sending.acked t.sending.acked || (is_closing t.phase && not (is_closing s.phase))

abbrev pub renews : Moment → Bool
renews m = is_anew m.was m.is

abbrev pub any_renews : List Moment → Bool
any_renews [] = false
any_renews (m ∷ ms) = renews m || any_renews ms

-- what came behind the last of these; all, where there was none
abbrev pub since_last : List Moment → List Moment
since_last [] = []
since_last (m ∷ ms) = if any_renews ms then since_last ms else (if renews m then ms else m ∷ ms)

-- how many of these are expiries
abbrev pub count : List Moment → ℕ
count [] = 0
count (m ∷ ms) = (if expires m then 1 else 0) + count ms

-- how many there were since more was last acknowledged, since the end began to close, or else since its making
abbrev pub expiries : List Moment → ℕ
expiries ms = count (since_last ms)

-- ---- over inputs ----
abbrev pub tick_of : Input → ℕ → Option ℕ
tick_of Tick now = Some now
tick_of (Write message) now = None
tick_of (Arrive t) now = None
tick_of Close now = None
tick_of Take now = None

-- an end that is given these inputs, each at its moment
abbrev pub moments : State → List (Input × ℕ) → List Moment
moments s [] = []
moments s (i ∷ inputs) =
    let t : State = (step s i.0 i.1).end in
    record { was = s; tick = tick_of i.0 i.1; is = t } ∷ moments t inputs
