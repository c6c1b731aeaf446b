-- One circuit over every schedule: two ends, all that they ever put out, and what each has heeded.
use Rattle.std.specs.Prelude.{◌≡◌, ℕ, ◌+◌, ◌<◌, ◌%◌, ◌⊎◌, Bool, true, false, ◌||◌, nat_eq, if◌then◌else◌, List, [], ◌∷◌, ◌++◌, take, slice_get, Contains, Option, None, Some}
use Rattle.ax_address.specs.Callsign.{Callsign}
use Rattle.circuit_l4.specs.declared.pair.Pair.{Pair}
use Rattle.circuit_l4.specs.declared.transport.Transport.{Transport}
use Rattle.circuit_l4.specs.declared.transport.Transport.TheVariants.{Request, Accept, Refuse, Disconnect, Info, InfoAck}
use Rattle.circuit_l4.specs.declared.config.EndConfig.{EndConfig}
use Rattle.circuit_l4.specs.declared.phase.EndPhase.{EndPhase}
use Rattle.circuit_l4.specs.declared.phase.EndPhase.TheVariants.{Connecting, Up, Closing, Ended}
use Rattle.circuit_l4.specs.declared.notice.EndNotice.{EndNotice}
use Rattle.circuit_l4.specs.declared.notice.EndNotice.TheVariants.{Closed, ClosedByPartner}
use Rattle.circuit_l4.specs.declared.role.Role.TheVariants.{Responder}
use Rattle.circuit_l4.specs.State.{State, Effect, Out, is_up, fragments, total}
use Rattle.circuit_l4.specs.Table.{Input, Arrive, common_window, step}
use Rattle.circuit_l4.specs.Opening.{requesting, responding}
use Rattle.circuit_set.specs.Lines.{InfoMark, AckMark, count_from}
use Rattle.circuit_set.specs.Heaps.{AreMessages}
use Rattle.circuit_table.specs.Sets.{heeds}
use Rattle.circuit_set.specs.Safe.{IsBeginning, wholes}
use Rattle.circuit_set.specs.Ways.{DirectionOk}

-- what was put out, with what its sender had got, and how many fragments it and its partner had sent, at the end of that step
pub record Flight : Type 0 where
  pub out : Transport
  pub number : Option ℕ
  pub upto : ℕ
  pub own : ℕ
  pub other : ℕ

pub record Side : Type 0 where
  pub e : State
  pub outs : List Flight  -- the newest first
  pub heard : List ℕ  -- the numbers of the information messages heeded, each once
  pub notes : List EndNotice  -- all ever told

-- what is put out stands before what was put out earlier
abbrev pub tag_on : ℕ → ℕ → ℕ → List Out → List Flight → List Flight
tag_on upto own other [] fs = fs
tag_on upto own other (o ∷ os) fs = tag_on upto own other os (record { out = o.0; number = o.1; upto = upto; own = own; other = other } ∷ fs)

-- a side whose end has come to this, and the numbers heeded by then
abbrev pub now_at : Side → Side → Effect → List ℕ → Side
now_at me other g heard = record {
  e = g.end;
  outs = tag_on g.end.receiving.got g.end.sending.sent other.e.sending.sent g.outs me.outs;
  heard = heard;
  notes = me.notes ++ g.notes;
}

abbrev pub heard_it : ℕ → List ℕ → Bool
heard_it n [] = false
heard_it n (m ∷ ms) = nat_eq n m || heard_it n ms

abbrev pub hear : ℕ → List ℕ → List ℕ
hear n heard = if heard_it n heard then heard else n ∷ heard

-- the numbers heeded, with that of an information message
abbrev pub hear_text : Transport → Option ℕ → List ℕ → List ℕ
hear_text (Info to tx rx flags text) (Some n) heard = hear n heard
hear_text _ _ heard = heard

abbrev pub heard_by : Side → Flight → List ℕ
heard_by me s = if heeds me.e.phase s.out then hear_text s.out s.number me.heard else me.heard

abbrev pub comes : Side → Side → Option Flight → ℕ → Side
comes me other None now = me
comes me other (Some s) now = now_at me other (step me.e (Arrive s.out) now) (heard_by me s)

abbrev pub does : Side → Side → Input → ℕ → Side
does me other i now = now_at me other (step me.e i now) me.heard

-- the Accept of this end again
abbrev pub accepts_again : Side → Side → Side
accepts_again me other = now_at me other (record { end = me.e; outs = (Accept me.e.to me.e.pair me.e.window, None) ∷ []; notes = [] }) me.heard

-- requester and responder
pub record Circuit : Type 0 where
  pub left : Side
  pub right : Side

-- a call of an end; a copy of the partner's sending of this place among all of them, at this moment; the Accept again, since
-- the request came again
pub data Event : Type 0 where
  Left : (input : Input) (now : ℕ) → Event
  Right : (input : Input) (now : ℕ) → Event
  To_left : (place now : ℕ) → Event
  To_right : (place now : ℕ) → Event
  Accepts : Event

abbrev pub after_event : Circuit → Event → Circuit
after_event c (Left i now) = record { left = does c.left c.right i now; right = c.right }
after_event c (Right i now) = record { left = c.left; right = does c.right c.left i now }
after_event c (To_left k now) = record { left = comes c.left c.right (slice_get c.right.outs k) now; right = c.right }
after_event c (To_right k now) = record { left = c.left; right = comes c.right c.left (slice_get c.left.outs k) now }
after_event c Accepts = record { left = c.left; right = accepts_again c.right c.left }

abbrev pub run : List Event → Circuit → Circuit
run [] c = c
run (e ∷ es) c = run es (after_event c e)

-- of a sending by y that comes to x: fewer than a overtakers, of either direction
abbrev pub InTime : ℕ → Side → Side → Flight → Type 0
InTime a x y s = count_from s.own x.heard + count_from s.other y.heard < a

abbrev pub ComesInTime : ℕ → Side → Side → Option Flight → Type 0
ComesInTime a x y None = Unit {0}
ComesInTime a x y (Some s) = heeds x.e.phase s.out ≡ true → InTime a x y s

-- what comes to an end besides copies of its partner's sendings is heeded by neither: a refusal, which ends an end that is
-- Connecting, or a request
abbrev pub IsCall : Input → Type 0
IsCall (Arrive (Refuse to)) = Unit {0}
IsCall (Arrive (Request pair window user node)) = Unit {0}
IsCall (Arrive _) = ⊥
IsCall _ = Unit {0}

abbrev pub EventInTime : ℕ → Circuit → Event → Type 0
EventInTime a c (Left i now) = IsCall i
EventInTime a c (Right i now) = IsCall i
EventInTime a c (To_left k now) = ComesInTime a c.left c.right (slice_get c.right.outs k)
EventInTime a c (To_right k now) = ComesInTime a c.right c.left (slice_get c.left.outs k)
EventInTime a c Accepts = c.right.e.role ≡ Responder

abbrev pub InTimeAll : ℕ → List Event → Circuit → Type 0
InTimeAll a [] c = Unit {0}
InTimeAll a (e ∷ es) c = EventInTime a c e × InTimeAll a es (after_event c e)

-- what x wrote and y received
pub record SafeTo (x y : Side) : Type 0 where
  pub received : IsBeginning y.e.receiving.received x.e.sending.wrote
  pub acked : IsBeginning (take (wholes x.e.sending.wrote x.e.sending.acked) x.e.sending.wrote) y.e.receiving.received
  pub closed : Contains x.notes Closed ⊎ Contains y.notes ClosedByPartner → y.e.receiving.received ≡ x.e.sending.wrote

-- ---- what is kept; no public clause cites it ----
abbrev pub is_shut : EndPhase → Bool
is_shut Connecting = false
is_shut Up = false
is_shut Closing = true
is_shut Ended = true

abbrev pub AllAcked : State → Type 0
AllAcked e = (e.sending.acked ≡ total e.sending) × (is_shut e.phase ≡ true)

-- what holds for good of a sending by x to y
abbrev pub OutFact : ℕ → Side → Side → Flight → Transport → Option ℕ → Type 0
OutFact w x y s (Info to tx rx flags text) (Some n) =
    InfoMark w x.e.sending.sent (record { number = n; top = s.own })
    × (tx ≡ n % 256)
    × (slice_get (fragments x.e.sending) n ≡ Some (text.items, flags.more))
    × AckMark w x.e.receiving.got y.e.sending.sent (record { number = s.upto; top = s.other })
    × (rx ≡ s.upto % 256)
OutFact w x y s (Info to tx rx flags text) None = ⊥
OutFact w x y s (InfoAck to rx flags) n =
    AckMark w x.e.receiving.got y.e.sending.sent (record { number = s.upto; top = s.other }) × (rx ≡ s.upto % 256)
OutFact w x y s (Accept to own window) n = window ≡ w
OutFact w x y s (Disconnect to) n = AllAcked x.e
OutFact w x y s _ n = Unit {0}

abbrev pub Facts : ℕ → Side → Side → List Flight → Type 0
Facts w x y [] = Unit {0}
Facts w x y (s ∷ ss) = OutFact w x y s s.out s.number × Facts w x y ss

-- x's closing, and what its partner y was told of it
pub record Shut (x y : Side) : Type 0 where
  pub closing : x.e.phase ≡ Closing → x.e.sending.acked ≡ total x.e.sending
  pub closed : Contains x.notes Closed → AllAcked x.e
  pub told : Contains y.notes ClosedByPartner → AllAcked x.e

-- an end of a circuit of window w, by itself
pub record EndOk (w : ℕ) (e : State) : Type 0 where
  pub up : is_up e.phase ≡ true → e.window ≡ w
  pub answers : e.role ≡ Responder → e.window ≡ w
  pub idle : e.phase ≡ Connecting → e.sending.wrote ≡ []
  pub fits : common_window e.config.window w ≡ w
  pub good : AreMessages e.sending.wrote

-- what is kept of a circuit, seen from one side
pub record PairOk (w : ℕ) (x y : Side) : Type 0 where
  pub out : DirectionOk w x.e.sending y.e.receiving y.heard
  pub back : DirectionOk w y.e.sending x.e.receiving x.heard
  pub mine : Facts w x y x.outs
  pub theirs : Facts w y x y.outs
  pub end_mine : EndOk w x.e
  pub end_theirs : EndOk w y.e
  pub shut_mine : Shut x y
  pub shut_theirs : Shut y x

-- ---- the opening ----
-- a side at its making
abbrev pub new_side : Effect → Side
new_side g = record { e = g.end; outs = tag_on 0 0 0 g.outs []; heard = []; notes = g.notes }

-- a requester and the responder that its request has made: each with its pair, its settings and its moment
abbrev pub new_circuit : (pair partner : Pair) (user node : Callsign) (config own : EndConfig) (asked now : ℕ) → Circuit
new_circuit pair partner user node config own asked now =
    record { left = new_side (requesting pair user node config asked); right = new_side (responding partner pair config.window own now) }
