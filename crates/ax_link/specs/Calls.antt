-- What the calls inside a link do. Contracts see a link by `view_of`; no public clause cites the rest.
use Rattle.std.specs.Prelude.{◌≡◌, ℕ, ◌+◌, ◌-◌, min, Bool, true, false, not, ◌&&◌, if◌then◌else◌, List, [], ◌∷◌, ◌++◌, length, map, Option, Some, None, slice_get, slice_set}
use Rattle.radio_base.specs.declared.payload.Payload.{Payload}
use Rattle.ax_link.specs.declared.machine.Machine.{Machine}
use Rattle.ax_link.specs.declared.frame_in.FrameIn.{FrameIn}
use Rattle.ax_link.specs.declared.i_frame.IFrame.{IFrame}
use Rattle.ax_link.specs.Kinds.{payload, payload_of}
use Rattle.ax_link.specs.State.{Frame, Effect, high}
use Rattle.ax_link.specs.Table.{arrive_in, close_in_turn, fail_in, may_close, retry_in, set_up_in}
use Rattle.ax_link.specs.Moves.{asks, frames, frames_of, is_free, follow, emit, rr, store_early, take_in, take_next}
use Rattle.ax_link.specs.Standing.{LinkView, KeepsEffect, frame_of, runs}

-- what a link keeps
abbrev pub view_of : {M : Type 0} → Machine M → LinkView
view_of st =
    record {
      window = st.window;
      t1 = st.t1;
      t3 = st.t3;
      retries = st.retries;
      srej = st.srej;
      phase = st.phase;
      queue = st.queue.items;
      acked = st.acked;
      sent = st.sent;
      got = st.got;
      early = st.early.items;
      inbox = st.inbox.items;
      tries = st.tries;
      polling = st.polling;
      peer_busy = st.peer_busy;
      rej_sent = st.rej_sent;
      closing = st.closing;
      t1_at = st.t1_at;
      last_arrival = st.last_arrival;
      t1_stopped_at = st.t1_stopped_at;
      outs = st.outs.items;
      notice = st.notice;
    }

-- a call does this part of a step
abbrev pub Does : {M : Type 0} → ℕ → (Effect → Effect) → Machine M → Machine M → Type 0
Does size part old new = (g : Effect) → KeepsEffect size (view_of old) g → KeepsEffect size (view_of new) (part g)

-- after a change before which T1 ran or not
abbrev pub view_with_t1 : ℕ → Bool → LinkView → LinkView
view_with_t1 now ran h =
    record h {
      t1_at = if not ran && runs h then now + h.t1 else h.t1_at;
      t1_stopped_at = if ran && not (runs h) then now else h.t1_stopped_at;
    }

-- the payloads that go out, from number n on
abbrev pub texts_out : ℕ → ℕ → Effect → Effect
texts_out n many g = record g { outs = g.outs ++ frames g.link n many }

-- a call puts out so many payloads from number n on, and does nothing else
pub record EmitsTexts (size n many : ℕ) (old new : LinkView) : Type 0 where
  pub same : new ≡ record old { outs = new.outs }
  pub frames : (before : List Payload) → length before ≡ old.acked →
      map (frame_of size) new.outs ≡ map (frame_of size) old.outs ++ frames_of size old.got (before ++ old.queue) n many

-- the next payload is taken
abbrev pub take_next_payload : Payload → Effect → Effect
take_next_payload p g = record g { link = take_next p g.link }

-- and nothing is asked for any more
abbrev pub take_plain : Payload → Effect → Effect
take_plain p g = record g { link = record (take_next p g.link) { rej_sent = false } }

-- rr is put out as a response
abbrev pub emit_rr : Bool → Effect → Effect
emit_rr pf g = emit false (rr g.link pf) g

-- the next payload is taken, and early ones follow
abbrev pub text_next : Bool → Payload → Effect → Effect
text_next pf p g = take_in pf (follow (take_next p g.link)) g

-- early payloads follow
abbrev pub move_on : Effect → Effect
move_on g = record g { link = follow g.link }

-- many numbers from n on are asked for
abbrev pub ask_for_each : ℕ → ℕ → Effect → Effect
ask_for_each n many g = record g { outs = g.outs ++ asks g.link n many }

-- what is missing below number n, and wasn't known to be missing, is asked for
abbrev pub ask_for_missing : ℕ → Effect → Effect
ask_for_missing n g = record g { outs = g.outs ++ asks g.link (high g.link) (n - high g.link) }

-- payload number n is kept early
abbrev pub keep_early : ℕ → Payload → Effect → Effect
keep_early n p g = record g { link = store_early (n - length g.link.received) p g.link }

-- whether a payload is kept in this place
abbrev pub is_filled : Option (Option Payload) → Bool
is_filled None = false
is_filled (Some None) = false
is_filled (Some (Some p)) = true

-- what the places of early payloads hold once a payload was kept in place i
abbrev pub with_early : ℕ → Payload → List (Option Payload) → List (Option Payload)
with_early i p early = if is_free (slice_get early i) then slice_set early i (Some p) else early

-- one payload that is asked for goes out, if it was put out before
abbrev pub text_again : ℕ → Effect → Effect
text_again n g = texts_out n (min 1 (g.link.sent - n)) g

-- a frame as it has come
abbrev pub frame_come : FrameIn → Frame
frame_come f = record { command = f.command; kind = f.kind; payload = payload_of f.pid f.info.now }

-- the payload that an I frame brings
abbrev pub brought : IFrame → Payload
brought i = payload i.pid i.info.now

-- a frame has come
abbrev pub arrive : ℕ → Frame → Effect → Effect
arrive now frame g = arrive_in g.link.phase now frame (record g { link = record g.link { last_arrival = now } })

abbrev pub ask_once_more : ℕ → Effect → Effect
ask_once_more now g = retry_in g.link.phase now g

abbrev pub tell_end : Effect → Effect
tell_end g = fail_in g.link.phase g

-- the link is set up, where it is Down
abbrev pub set_up : ℕ → Effect → Effect
set_up now g = set_up_in g.link.phase now g

abbrev pub close : ℕ → Effect → Effect
close now g = if may_close g.link.phase then close_in_turn now g else g

-- a payload is accepted, and waits
abbrev pub enqueue : Payload → Effect → Effect
enqueue p g = record g { link = record g.link { given = g.link.given ++ p ∷ [] } }
