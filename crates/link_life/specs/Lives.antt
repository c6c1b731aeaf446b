-- The life of a link: two ends, a channel that keeps order, loses at will and delays by at most a stated time, and what is done, act
-- by act. Own profile; the links are those of AX.25 2.2, section 6.
use Rattle.std.specs.Prelude.{ℕ, ◌+◌, ◌-◌, ◌^◌, min, Bool, false, not, ◌||◌, nat_le, nat_lt, if◌then◌else◌, List, [], ◌∷◌, ◌++◌, length, map, Option, Some, None, slice_get}
use Rattle.std.specs.List.{list_any}
use Rattle.radio_base.specs.declared.payload.Payload.{Payload}
use Rattle.ax_link.specs.declared.config.LinkConfig.{LinkConfig}
use Rattle.ax_link.specs.declared.notice.LinkNotice.{LinkNotice}
use Rattle.ax_link.specs.Opening.{opening, rules_new}
use Rattle.ax_link.specs.State.{Effect, Frame, Rules, State, count_end}
use Rattle.ax_link.specs.Table.{Input, may_close, step}
use Rattle.ax_link.specs.Table as table
use Rattle.link_life.specs.declared.life_refusals.LifeRefusal.{LifeRefusal}
use Rattle.link_life.specs.declared.life_refusals.LifeRefusal.TheVariants as why
use Rattle.link_life.specs.declared.act.Side.{Side}
use Rattle.link_life.specs.declared.act.Side.TheVariants.{A, B}
use Rattle.link_life.specs.declared.act.EndAct.{EndAct}
use Rattle.link_life.specs.declared.act.EndAct.TheVariants as acts
use Rattle.link_life.specs.declared.act.LifeAct.{LifeAct}
use Rattle.link_life.specs.declared.act.LifeAct.TheVariants.{At, Tick}
use Rattle.link_life.specs.Ends.{End, Ends, Flight, hear, is_down, step_near}

-- the settings of both ends: T1 is 3 s, T3 5 minutes, and an answer is asked for again 10 times
abbrev pub settings : Bool → LinkConfig
settings srej = record { window = 0; srej = srej; t1 = 3000; t3 = 300000; retries = 10 }

-- for so long an end that went Down isn't set up again, in milliseconds
abbrev pub pause : ℕ
pause = 3000

-- where the clock ends
abbrev pub clock_end : ℕ
clock_end = 2 ^ 64 - 1

-- what is told of an act: notices, how long the payloads were that a user took, and the frames that were put out
pub record LifeTold : Type 0 where
  pub notices : List (Side × LinkNotice)
  pub taken : List (Side × ℕ)
  pub frames : List (Side × Frame)

abbrev pub nothing_told : LifeTold
nothing_told = record { notices = []; taken = []; frames = [] }

-- both, each part in this order
abbrev pub joined : LifeTold → LifeTold → LifeTold
joined t u = record { notices = t.notices ++ u.notices; taken = t.taken ++ u.taken; frames = t.frames ++ u.frames }

-- an act is refused and changes nothing, or it is done
pub data Outcome (X : Type 0) : Type 0 where
  Refused : LifeRefusal → Outcome X
  Done : LifeTold → X → Outcome X

abbrev pub unless : {X : Type 0} → Option LifeRefusal → Outcome X → Outcome X
unless None done = done
unless (Some refusal) done = Refused refusal

-- when and at which side an act is done, and the rules of a new link
pub record Turn : Type 0 where
  pub rules : Rules
  pub now : ℕ
  pub side : Side

-- what is told of a step of a link, and of payloads that were taken
abbrev pub told_by_step : Side → List ℕ → Effect → LifeTold
told_by_step side taken g =
    record { notices = map (λ n. (side, n)) g.notes; taken = map (λ len. (side, len)) taken; frames = map (λ f. (side, f)) g.outs }

-- the near end's link makes a step
abbrev pub moved : Turn → Input → List ℕ → Ends → Outcome Ends
moved t i taken p =
    let g : Effect = step p.near.link i t.now in
    Done (told_by_step t.side taken g) (step_near t.rules t.now g p)

abbrev pub is_early : Option ℕ → ℕ → Bool
is_early None now = false
is_early (Some since) now = nat_lt (now - since) pause

-- an end is set up where it is Down, and has been for a while if it was ever anything else
abbrev pub set_up_refusal : End → ℕ → Option LifeRefusal
set_up_refusal e now = if not (is_down e.link.phase) then Some why.Phase else if is_early e.down_since now then Some why.Early else None

-- whether a payload is accepted
abbrev pub send_refusal : State → Option LifeRefusal
send_refusal s =
    if not (may_close s.phase) || s.closing then Some why.NotUp
    else if nat_le 128 (length s.given - s.acked) then Some why.QueueFull
    else if nat_le count_end (length s.given) then Some why.Exhausted
    else None

-- the oldest payload of the inbox is taken
abbrev pub take_first : Turn → Option Payload → Ends → Outcome Ends
take_first t None p = Refused why.Nothing
take_first t (Some payload) p = moved t table.Take (length payload.info.items ∷ []) p

-- the oldest of these frames arrives
abbrev pub arrive_first : Turn → List Flight → Ends → Outcome Ends
arrive_first t [] p = Refused why.Nothing
arrive_first t (f ∷ fs) p = moved t (table.Arrive f.frame) [] (record p { near = hear f (record p.near { coming = fs }) })

-- the oldest of these frames is lost
abbrev pub lose_first : List Flight → Ends → Outcome Ends
lose_first [] p = Refused why.Nothing
lose_first (f ∷ fs) p = Done nothing_told (record p { near = record p.near { coming = fs } })

-- what is done at the near end
abbrev pub act_near : Turn → EndAct → Ends → Outcome Ends
act_near t acts.SetUp p = unless (set_up_refusal p.near t.now) (moved t table.Set_up [] p)
act_near t (acts.Send payload) p = unless (send_refusal p.near.link) (moved t (table.Send payload) [] p)
act_near t acts.Close p = moved t table.Close [] p
act_near t acts.Take p = take_first t (slice_get p.near.link.inbox 0) p
act_near t acts.Arrive p = arrive_first t p.near.coming p
act_near t acts.Lose p = lose_first p.near.coming p

pub record Life : Type 0 where
  pub rules : Rules  -- of each new link
  pub delay : ℕ  -- for how long a frame may be under way, in milliseconds
  pub now : ℕ
  pub a : End
  pub b : End

abbrev pub new_end : Rules → End
new_end rules = record { link = opening rules; over = []; heard = None; down_since = None; coming = [] }

-- both ends are new, and nothing is under way
abbrev pub new_life : ℕ → Bool → ℕ → Life
new_life size srej delay =
    let rules : Rules = rules_new size (settings srej) in
    record { rules = rules; delay = delay; now = 0; a = new_end rules; b = new_end rules }

abbrev pub ends_at : Side → Life → Ends
ends_at A w = record { near = w.a; far = w.b }
ends_at B w = record { near = w.b; far = w.a }

abbrev pub with_ends : Side → Ends → Life → Life
with_ends A p w = record w { a = p.near; b = p.far }
with_ends B p w = record w { b = p.near; a = p.far }

abbrev pub turn_at : Side → Life → Turn
turn_at side w = record { rules = w.rules; now = w.now; side = side }

abbrev pub lifted : Side → Life → Outcome Ends → Outcome Life
lifted side w (Refused refusal) = Refused refusal
lifted side w (Done told p) = Done told (with_ends side p w)

abbrev pub act_at : Side → EndAct → Life → Outcome Life
act_at side act w = lifted side w (act_near (turn_at side w) act (ends_at side w))

-- what is told before
abbrev pub after_told : {X : Type 0} → LifeTold → Outcome X → Outcome X
after_told t (Refused refusal) = Refused refusal
after_told t (Done u x) = Done (joined t u) x

-- one thing after another
abbrev pub and_then : Outcome Life → (Life → Outcome Life) → Outcome Life
and_then (Refused refusal) next = Refused refusal
and_then (Done told w) next = after_told told (next w)

-- time comes to an end
abbrev pub tick_at : Side → Life → Outcome Life
tick_at side w = lifted side w (moved (turn_at side w) table.Tick [] (ends_at side w))

-- a frame would be older than the channel delays one
abbrev pub is_late : ℕ → ℕ → List Flight → Bool
is_late delay now coming = list_any (λ f. nat_lt delay (now - f.sent)) coming

abbrev pub delay_refusal : Life → ℕ → Option LifeRefusal
delay_refusal w later = if is_late w.delay later w.a.coming || is_late w.delay later w.b.coming then Some why.Delay else None

-- time goes on at both ends, first at a
abbrev pub tick_both : Life → Outcome Life
tick_both w = and_then (tick_at A w) (tick_at B)

abbrev pub tick_to : ℕ → Life → Outcome Life
tick_to later w = unless (delay_refusal w later) (tick_both (record w { now = later }))

abbrev pub tick_on : ℕ → Life → Outcome Life
tick_on passed w = tick_to (min (w.now + passed) clock_end) w

abbrev pub act_on : LifeAct → Life → Outcome Life
act_on (At side act) w = act_at side act w
act_on (Tick passed) w = tick_on passed w

-- an act that is refused changes nothing
abbrev pub after_act : Outcome Life → Life → Life
after_act (Refused refusal) w = w
after_act (Done told later) w = later

-- the life after these acts
abbrev pub run : Life → List LifeAct → Life
run w [] = w
run w (act ∷ acts) = run (after_act (act_on act w) w) acts
