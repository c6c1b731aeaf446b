-- A step of one link, and what comes of it at the node.
use Rattle.std.specs.Prelude.{ℕ, zero, suc, ◌==◌, Bool, true, false, if◌then◌else◌, List, [], ◌∷◌, ◌++◌, map, slice_get, None, Some, ◌&&◌, ◌||◌, nat_le, length, Option}
use Rattle.radio_base.specs.declared.payload.Payload.{Payload}
use Rattle.ax_address.specs.Callsign.{Callsign}
use Rattle.ax_link.specs.declared.notice.LinkNotice.{LinkNotice}
use Rattle.ax_link.specs.declared.notice.LinkNotice.TheVariants.{Reset, Refused, Failed}
use Rattle.ax_link.specs.declared.kind.Kind.{Kind}
use Rattle.ax_link.specs.declared.kind.Kind.TheVariants.{SetUp}
use Rattle.ax_link.specs.declared.phase.LinkPhase.{LinkPhase}
use Rattle.ax_link.specs.declared.phase.LinkPhase.TheVariants.{Down, Up}
use Rattle.ax_link.specs.State.{Frame, Effect}
pub use Rattle.ax_link.specs.State.{is_down}
use Rattle.ax_link.specs.Table.{Input, Arrive, Take, step}
use Rattle.ax_segment.specs.Joining.{HeldMessage, Nothing, join_step, whole_of}
use Rattle.link_table.specs.Frames.{Sent, netrom, plain_text, segmented, all_sent}
use Rattle.link_table.specs.Table.{Linked, Pending}

-- a link, and what waits to be fetched
pub record Work : Type 0 where
  pub linked : Linked
  pub pending : Pending

-- a Reset empties the joiner
abbrev pub joiner_after : List LinkNotice → HeldMessage → HeldMessage
joiner_after [] held = held
joiner_after (Reset ∷ notes) held = Nothing
joiner_after (n ∷ notes) held = joiner_after notes held

-- the peer is lost where its link has failed or was refused
abbrev pub lost_by : Callsign → List LinkNotice → List Callsign
lost_by peer [] = []
lost_by peer (Failed ∷ notes) = peer ∷ lost_by peer notes
lost_by peer (Refused ∷ notes) = peer ∷ lost_by peer notes
lost_by peer (n ∷ notes) = lost_by peer notes

abbrev pub tell : Callsign → List LinkNotice → Pending → Pending
tell peer notes p = record p { notices = p.notices ++ map (λ n. (peer, n)) notes; lost = p.lost ++ lost_by peer notes }

abbrev pub emit : List Sent → Pending → Pending
emit sents p = record p { frames = p.frames ++ sents }

-- what comes of a step of the link: its frames go out over its path, and its notices are told
abbrev pub lift : Callsign → Effect → Work → Work
lift own g w =
    record {
      linked = record w.linked { link = g.link; joiner = joiner_after g.notes w.linked.joiner };
      pending = tell w.linked.peer g.notes (emit (all_sent w.linked.link.rules.size own w.linked.peer w.linked.path g.outs) w.pending);
    }

abbrev pub step_link : Callsign → Input → ℕ → Work → Work
step_link own i now w = lift own (step w.linked.link i now) w

-- a payload that was taken from the link: a datagram comes up, a segment goes to the joiner, and all else is dropped
abbrev pub hand_up : Payload → Work → Work
hand_up p w =
    if p.pid == netrom
    then record w { pending = record w.pending { waiting = w.pending.waiting ++ (w.linked.peer, p.info) ∷ [] } }
    else if p.pid == segmented
    then record w { linked = record w.linked { joiner = (join_step w.linked.joiner p.info.items).0 } }
    else w

abbrev pub take_payload : Callsign → ℕ → Payload → Work → Work
take_payload own now p w = hand_up p (step_link own Take now w)

-- whether a message is a text, by its PID and number of bytes
abbrev pub text_by : Option (ℕ × ℕ) → Bool
text_by None = false
text_by (Some m) = (m.0 == plain_text) && (nat_le 1 m.1 && nat_le m.1 8192)

-- whether a payload is a text, or a segment at which the joiner would give one
abbrev pub is_text : HeldMessage → Payload → Bool
is_text joiner p =
    if p.pid == plain_text then nat_le 1 (length p.info.items)
    else if p.pid == segmented then text_by (whole_of (join_step joiner p.info.items).1)
    else false

-- the payload that may be taken at once: the oldest one, unless it is a text
abbrev pub unless_text : HeldMessage → Option Payload → Option Payload
unless_text joiner None = None
unless_text joiner (Some p) = if is_text joiner p then None else Some p

abbrev pub first_to_take : Work → Option Payload
first_to_take w = unless_text w.linked.joiner (slice_get w.linked.link.inbox 0)

-- payload by payload is taken, as long as one is there that is no text and fewer than so many were
abbrev pub settle : ℕ → Callsign → ℕ → Work → Work
settle zero own now w = w
settle (suc n) own now w = elim (first_to_take w) as (λ x. Work) [ None ↦ w | Some p ↦ settle n own now (take_payload own now p w) ]

-- more than an inbox and the places for early payloads hold
abbrev pub most_taken : ℕ
most_taken = 192

abbrev pub is_set_up : Kind → Bool
is_set_up (SetUp pf) = true
is_set_up _ = false

-- a set-up of the peer makes the link that is Down, and sets one up again that is Up. In any other phase it crosses with a frame of ours,
-- and does neither
abbrev pub heeds_set_up : LinkPhase → Bool
heeds_set_up Down = true
heeds_set_up Up = true
heeds_set_up _ = false

-- whether the peer has set the link up, once a frame of this kind has come in this phase
abbrev pub called_by : Kind → LinkPhase → Bool → Bool
called_by kind phase called = called || (is_set_up kind && heeds_set_up phase)

abbrev pub note_caller : Frame → Work → Work
note_caller f w = record w { linked = record w.linked { called = called_by f.kind w.linked.link.phase w.linked.called } }

-- a frame has come: what it brought is taken at once, unless the link has ended
abbrev pub arrive_at_link : Callsign → Frame → ℕ → Work → Work
arrive_at_link own f now w =
    let s : Work = step_link own (Arrive f) now (note_caller f w) in
    if is_down s.linked.link.phase then s else settle most_taken own now s
